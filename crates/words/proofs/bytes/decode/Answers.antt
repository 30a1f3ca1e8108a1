use native.Mathlib.Omega.{arith}
use mathlib.Core.Path.{◌≡◌, refl, ◌∙◌}
use mathlib.Core.List.{List}
use Prim.Native.Nat.{ℕ, suc, ◌+◌, ◌<◌}
use native.Mathlib.Numerals.{add-one}
use lib.ListN.{length, take, drop, set, length-set}
use lib.Seq.{take-suc-set, drop-set-lt, drop-cons}
use lib.IntN.{ℤ, pos}
use mir.Syntax.{w32}
use mir.Facts.{to_z-of_z}
use Rattle.words.specs.Bytes.{word_at, words_of}
use Rattle.words.proofs.bytes.decode.Goals as goal

-- one word more
stored : (bs : List ℕ) (out : List ℤ) (i : ℕ) (v : ℤ) → i < length out → take i out ≡ words_of bs i → v ≡ word_at bs i → take (i + 1) (set out i v) ≡ words_of bs (i + 1)
unfolding words_of
stored bs out i v h e f = rw (add-one, take-suc-set out i v h, e, f)

-- one place less that holds what it held
kept : (out₀ out : List ℤ) (i : ℕ) (v : ℤ) → i < length out → length out ≡ length out₀ → drop i out ≡ drop i out₀ → drop (i + 1) (set out i v) ≡ drop (i + 1) out₀
kept out₀ out i v h l e =
    let p = drop-cons out i (pos 0) h in
    let q = drop-cons out₀ i (pos 0) (omega arith) in
    let t : drop (suc i) out ≡ drop (suc i) out₀ = cc in
    rw (add-one, drop-set-lt (suc i) out i v (omega arith), t)

pub loop-i-init : goal.loop-i-init
unfolding words_of
loop-i-init c = (refl, refl, refl)

pub loop-i-preserved : goal.loop-i-preserved
unfolding word_at
loop-i-preserved c =
    let l = c in
    let out = l.loop-i.out in
    let i = l.loop-i.i in
    let inside : i < length out = omega (arith, l) in (
      simp length-set l.loop-i.invariant.0,
      stored l.args.bytes.now out i _ inside l.loop-i.invariant.1 (to_z-of_z {w = w32} record { sfits = c.word_le.type_inv } ∙ c.word_le.ensures),
      kept l.args.out.now out i _ inside l.loop-i.invariant.0 l.loop-i.invariant.2,
    )
