-- What is decoded from the bytes of words is the words again. Assumes nothing.
use mathlib.Core.Path.{◌≡◌, refl, sym, ap, ap₂, ◌∙◌}
use mathlib.Core.List.{List}
use Prim.Native.Nat.{ℕ, zero, suc, ◌+◌, ◌*◌, ◌/◌, ◌%◌, ◌<◌, ◌≤◌}
use native.Mathlib.Nat.{div-div-eq-div-mul, div-add-mod, mod-eq_of_lt}
use native.Mathlib.Omega.{arith}
use lib.IntN.{ℤ, pos}
use lib.ListN.{length, get_or, take}
use lib.Seq.{take-suc, take-length}
use mir.Syntax.{w32}
use mir.Val.{SFits, to_z, of_z}
use mir.Facts.{to_z-of_z, Fits-of_z}
use Rattle.words.specs.Bytes.{spell, word, word_at, words_of}
use Rattle.words.proofs.TabLaws.{at_tab}
use Rattle.files.specs.Files.{digit, byte_of, byte_at, bytes_of}

-- three divisions by 256
sum : (v a b d r s t : ℕ) → 256 * a + r ≡ v → 256 * b + s ≡ a → 256 * d + t ≡ b → r + 256 * s + 65536 * t + 16777216 * d ≡ v
sum v a b d r s t e f g = omega arith

-- the four digits spell the number
digits : (v : ℕ) → v < 4294967296 → spell (digit v 0) (digit v 1) (digit v 2) (digit v 3) ≡ v
unfolding spell digit
digits v h =
    let small : v / 16777216 % 256 ≡ v / 16777216 = mod-eq_of_lt (omega arith) in
    let second = ap (λ (q : ℕ). 256 * q + v / 256 % 256) (sym (div-div-eq-div-mul v 256 256)) ∙ div-add-mod (v / 256) 256 in
    let third = ap (λ (q : ℕ). 256 * q + v / 65536 % 256) (sym (div-div-eq-div-mul v 65536 256)) ∙ div-add-mod (v / 65536) 256 in
    ap (λ (q : ℕ). v % 256 + 256 * (v / 256 % 256) + 65536 * (v / 65536 % 256) + 16777216 * q) small
    ∙ sum v (v / 256) (v / 65536) (v / 16777216) (v % 256) (v / 256 % 256) (v / 65536 % 256) (div-add-mod v 256) second third

-- the four bytes of a word spell the word
pub word_back : (z : ℤ) → SFits w32 z → word (byte_of z 0) (byte_of z 1) (byte_of z 2) (byte_of z 3) ≡ z
unfolding word byte_of
word_back z f = ap (to_z w32) (digits (of_z w32 z) (Fits-of_z {w = w32} f).fits) ∙ to_z-of_z f

-- the bytes of word k
byte_at_lem : (ws : List ℤ) (k r i : ℕ) → i ≡ 4 * k + r → k < length ws → r < 4 → get_or (bytes_of ws) i 0 ≡ byte_of (get_or ws k (pos 0)) r
unfolding bytes_of byte_at
byte_at_lem ws k r i e h l =
    let a : i / 4 ≡ k = omega arith in
    let b : i % 4 ≡ r = omega arith in
    at_tab (4 * length ws) (byte_at ws) 0 i (omega arith) ∙ ap₂ (λ (m j : ℕ). byte_of (get_or ws m (pos 0)) j) a b

-- word k of the bytes
word_at_lem : (ws : List ℤ) (k : ℕ) → k < length ws → SFits w32 (get_or ws k (pos 0)) → word_at (bytes_of ws) k ≡ get_or ws k (pos 0)
unfolding word_at
word_at_lem ws k h f =
    let b0 = byte_at_lem ws k 0 (4 * k) (omega arith) h (omega arith) in
    let b1 = byte_at_lem ws k 1 (4 * k + 1) refl h (omega arith) in
    let b2 = byte_at_lem ws k 2 (4 * k + 2) refl h (omega arith) in
    let b3 = byte_at_lem ws k 3 (4 * k + 3) refl h (omega arith) in
    (λ i. word (b0 i) (b1 i) (b2 i) (b3 i)) ∙ word_back (get_or ws k (pos 0)) f

module _ (ws : List ℤ) (fits : (k : ℕ) → k < length ws → SFits w32 (get_or ws k (pos 0))) where
  first_back : (n : ℕ) → n ≤ length ws → words_of (bytes_of ws) n ≡ take n ws
  unfolding words_of
  first_back zero h = refl
  first_back (suc n) h =
      rw (first_back n (omega arith), word_at_lem ws n (omega arith) (fits n (omega arith)), take-suc ws n (pos 0) (omega arith))

  -- all of them
  pub words_back : words_of (bytes_of ws) (length ws) ≡ ws
  words_back = first_back (length ws) (omega arith) ∙ take-length ws
