-- The set by its positions: what is kept after one more is kept, after one is kept no more, and in the set of none.
-- Assumes nothing.
use mathlib.Core.Path.{◌≡◌, refl, sym, ap, subst, ◌∙◌}
use mathlib.Core.Bool.{true, false}
use mathlib.Core.Logic.{◌⊎◌, inl, inr}
use mathlib.Core.List.{List}
use Prim.Native.Nat.{ℕ, zero, suc, ◌+◌, ◌-◌, ◌*◌, ◌/◌, ◌%◌, ◌^◌, ◌≤◌, ◌<◌}
use native.Mathlib.Omega.{arith}
use native.Mathlib.Decide.{ℕ_discrete}
use lib.ListN.{length, get_or, set, replicate, length-set, length-replicate, get_or-replicate}
use lib.Seq.{get_or-set_same, get_or-set_other, ext_get_or}
use lib.Dec.{eqb, lit<}
use borrow.Author.Tests.{eqb-false, eq-eqb}
use lib.Bits.{bit_and, bit_or, or_add_and}
use lib.Pow.{pow_pos}
use native.Mathlib.Nat.{le_refl, lt_of_not-le, div-eq-sub-div}
use Rattle.bits.specs.Set.{digit, at, kept, with, without, none}
use Rattle.bits.proofs.DigitLaws.{digit_lt, digit_shr, digit_high, one_at, set_digit, set_same, set_other}

pub at_lt : (ws : List ℕ) (i : ℕ) → at ws i < 2
unfolding at
at_lt ws i = digit_lt (get_or ws (i / 64) 0) (i % 64)

pub not_kept_at : (ws : List ℕ) (i : ℕ) → kept ws i ≡ false → at ws i ≡ 0
unfolding kept
not_kept_at ws i e = omega (arith, at_lt ws i, eqb-false (at ws i) 1 e)

-- ---- a position by its word
pub at_word : (ws : List ℕ) (w j : ℕ) → j < 64 → at ws (w * 64 + j) ≡ digit (get_or ws w 0) j
unfolding at
at_word ws w j h =
    let q : (w * 64 + j) / 64 ≡ w = omega arith in
    let r : (w * 64 + j) % 64 ≡ j = omega arith in
    rw (q, r)

pub at_split : (ws : List ℕ) (i j : ℕ) → i % 64 + j < 64 → at ws (i + j) ≡ digit (get_or ws (i / 64) 0 / 2 ^ (i % 64)) j
at_split ws i j h =
    let e : i + j ≡ i / 64 * 64 + (i % 64 + j) = omega arith in
    rw e (at_word ws (i / 64) (i % 64 + j) h ∙ sym (digit_shr (get_or ws (i / 64) 0) (i % 64) j))

-- ---- one more is kept

pub with_length : (ws : List ℕ) (i : ℕ) → length (with ws i) ≡ length ws
unfolding with
with_length ws i = simp length-set

pub with_same : (ws : List ℕ) (i : ℕ) → i < 64 * length ws → at (with ws i) i ≡ 1
unfolding at with
with_same ws i h =
    ap (λ (x : ℕ). digit x (i % 64)) (get_or-set_same ws (i / 64) (get_or ws (i / 64) 0 + (1 - at ws i) * 2 ^ (i % 64)) 0 (omega arith))
    ∙ set_same (get_or ws (i / 64) 0) (i % 64) (omega arith)

pub with_other : (ws : List ℕ) (i j : ℕ) → i < 64 * length ws → (j ≡ i → ⊥) → at (with ws i) j ≡ at ws j
unfolding at with
with_other ws i j h d = go (ℕ_discrete (j / 64) (i / 64))
  where
    go : Dec (j / 64 ≡ i / 64) → digit (get_or (set ws (i / 64) (get_or ws (i / 64) 0 + (1 - at ws i) * 2 ^ (i % 64))) (j / 64) 0) (j % 64) ≡ digit (get_or ws (j / 64) 0) (j % 64)
    go (yes q) = rw q (ap (λ (x : ℕ). digit x (j % 64)) (get_or-set_same ws (i / 64) (get_or ws (i / 64) 0 + (1 - at ws i) * 2 ^ (i % 64)) 0 (omega arith))
        ∙ set_other (get_or ws (i / 64) 0) (i % 64) (j % 64) (omega arith) (λ r. d (omega arith)))
    go (no q) = ap (λ (x : ℕ). digit x (j % 64)) (get_or-set_other ws (i / 64) (j / 64) _ 0 q)

-- the position is kept
pub kept_same : (ws : List ℕ) (i : ℕ) → i < 64 * length ws → kept (with ws i) i ≡ true
unfolding kept
kept_same ws i h = eq-eqb _ 1 (with_same ws i h)

-- every other is as it was
pub kept_other : (ws : List ℕ) (i j : ℕ) → i < 64 * length ws → (j ≡ i → ⊥) → kept (with ws i) j ≡ kept ws j
unfolding kept
kept_other ws i j h d = ap (λ (x : ℕ). eqb x 1) (with_other ws i j h d)

-- so what was kept stays kept
pub kept_more : (ws : List ℕ) (i j : ℕ) → i < 64 * length ws → kept ws j ≡ true → kept (with ws i) j ≡ true
kept_more ws i j h k = go (ℕ_discrete j i)
  where
    go : Dec (j ≡ i) → kept (with ws i) j ≡ true
    go (yes q) = subst (λ (x : ℕ). kept (with ws i) x ≡ true) (sym q) (kept_same ws i h)
    go (no d) = kept_other ws i j h d ∙ k

-- and nothing else is
pub kept_only : (ws : List ℕ) (i j : ℕ) → i < 64 * length ws → kept (with ws i) j ≡ true → (j ≡ i) ⊎ (kept ws j ≡ true)
kept_only ws i j h k = go (ℕ_discrete j i)
  where
    go : Dec (j ≡ i) → (j ≡ i) ⊎ (kept ws j ≡ true)
    go (yes q) = inl q
    go (no d) = inr (sym (kept_other ws i j h d) ∙ k)

-- ---- one is kept no more

-- `&` with a power of two shows a word's digit
pub and_one_at : (n k : ℕ) → k < 64 → bit_and n (1 * 2 ^ k % 18446744073709551616) ≡ digit n k * 2 ^ k
and_one_at n k h = go (digit n k) (digit_lt n k) (set_digit n k h)
  where
    go : (d : ℕ) → d < 2 → bit_or n (1 * 2 ^ k % 18446744073709551616) ≡ n + (1 - d) * 2 ^ k → bit_and n (1 * 2 ^ k % 18446744073709551616) ≡ d * 2 ^ k
    go zero l s = omega (arith, or_add_and n (1 * 2 ^ k % 18446744073709551616), one_at k h)
    go (suc zero) l s = omega (arith, or_add_and n (1 * 2 ^ k % 18446744073709551616), one_at k h)
    go (suc (suc d)) l s = absurd (omega arith)

-- the digits of a word in which digit k is taken out
module _ (n k : ℕ) (h : k < 64) where
  -- a digit that is set is at most the word
  least : digit n k ≡ 1 → 2 ^ k ≤ n
  least e = let l : 2 ^ k < n + 1 = lt_of_not-le (λ (g : n + 1 ≤ 2 ^ k). omega (arith, digit_high n k k (omega arith) (le_refl k))) in omega arith

  gone : digit n k ≡ 1 → digit (n - 2 ^ k) k ≡ 0
  unfolding digit
  gone e = omega (arith, div-eq-sub-div (pow_pos k) (least e))

  less_same : digit (n - digit n k * 2 ^ k) k ≡ 0
  less_same = go (digit n k) refl (digit_lt n k)
    where
      go : (d : ℕ) → digit n k ≡ d → d < 2 → digit (n - d * 2 ^ k) k ≡ 0
      go zero e l = let z : n - 0 * 2 ^ k ≡ n = omega arith in rw z e
      go (suc zero) e l = let z : n - 1 * 2 ^ k ≡ n - 2 ^ k = omega arith in rw z (gone e)
      go (suc (suc d)) e l = absurd (omega arith)

  less_other : (j : ℕ) → (j ≡ k → ⊥) → digit (n - digit n k * 2 ^ k) j ≡ digit n j
  less_other j ne = go (digit n k) refl (digit_lt n k)
    where
      go : (d : ℕ) → digit n k ≡ d → d < 2 → digit (n - d * 2 ^ k) j ≡ digit n j
      go zero e l = let z : n - 0 * 2 ^ k ≡ n = omega arith in rw z
      go (suc zero) e l =
          let z : n - 1 * 2 ^ k ≡ n - 2 ^ k = omega arith in
          let o : 1 - digit (n - 2 ^ k) k ≡ 1 = omega (arith, gone e) in
          let w : n - 2 ^ k + 1 * 2 ^ k ≡ n = omega (arith, least e) in
          rw z (sym (set_other (n - 2 ^ k) k j h ne) ∙ ap (λ (x : ℕ). digit (n - 2 ^ k + x * 2 ^ k) j) o ∙ ap (λ (x : ℕ). digit x j) w)
      go (suc (suc d)) e l = absurd (omega arith)

pub without_length : (ws : List ℕ) (i : ℕ) → length (without ws i) ≡ length ws
unfolding without
without_length ws i = simp length-set

-- the position is not kept
pub gone_same : (ws : List ℕ) (i : ℕ) → i < 64 * length ws → kept (without ws i) i ≡ false
unfolding kept at without
gone_same ws i h =
    ap (λ (x : ℕ). eqb (digit x (i % 64)) 1) (get_or-set_same ws (i / 64) (get_or ws (i / 64) 0 - at ws i * 2 ^ (i % 64)) 0 (omega arith))
    ∙ ap (λ (x : ℕ). eqb x 1) (less_same (get_or ws (i / 64) 0) (i % 64) (omega arith))

-- every other is as it was
pub gone_other : (ws : List ℕ) (i j : ℕ) → i < 64 * length ws → (j ≡ i → ⊥) → kept (without ws i) j ≡ kept ws j
unfolding kept at without
gone_other ws i j h d = go (ℕ_discrete (j / 64) (i / 64))
  where
    go : Dec (j / 64 ≡ i / 64) → eqb (digit (get_or (set ws (i / 64) (get_or ws (i / 64) 0 - at ws i * 2 ^ (i % 64))) (j / 64) 0) (j % 64)) 1 ≡ eqb (digit (get_or ws (j / 64) 0) (j % 64)) 1
    go (yes q) = rw q (ap (λ (x : ℕ). eqb (digit x (j % 64)) 1) (get_or-set_same ws (i / 64) (get_or ws (i / 64) 0 - at ws i * 2 ^ (i % 64)) 0 (omega arith))
        ∙ ap (λ (x : ℕ). eqb x 1) (less_other (get_or ws (i / 64) 0) (i % 64) (omega arith) (j % 64) (λ r. d (omega arith))))
    go (no q) = ap (λ (x : ℕ). eqb (digit x (j % 64)) 1) (get_or-set_other ws (i / 64) (j / 64) _ 0 q)

-- ---- none

pub none_length : (words : ℕ) → length (none words) ≡ words
unfolding none
none_length words = length-replicate words 0

none_word : (k words : ℕ) → get_or {A = ℕ} (replicate words 0) k 0 ≡ 0
none_word k zero = refl
none_word zero (suc words) = refl
none_word (suc k) (suc words) = none_word k words

pub none_kept : (words i : ℕ) → kept (none words) i ≡ false
unfolding kept at none
none_kept words i = ap (λ (x : ℕ). eqb (digit x (i % 64)) 1) (none_word (i / 64) words) ∙ ap (λ (x : ℕ). eqb x 1) (digit_high 0 0 (i % 64) (lit< tt) (omega arith))

-- ---- the loop that makes it: the first w words are 0

pub record Blank (us ws : List ℕ) (w : ℕ) : Type 0 where
  pub long : length ws ≡ length us
  pub most : w ≤ length us
  pub zeros : (k : ℕ) → k < w → get_or ws k 0 ≡ 0

pub blank_start : (us : List ℕ) → Blank us us 0
blank_start us = record { long = refl; most = omega arith; zeros = λ k h. absurd (omega arith) }

pub blank_step : (us ws : List ℕ) (w : ℕ) → w < length ws → Blank us ws w → Blank us (set ws w 0) (w + 1)
blank_step us ws w h b =
    record {
      long = length-set ws w 0 ∙ b.long;
      most = omega (arith, b.long);
      zeros = λ k l. go k l (ℕ_discrete k w);
    }
  where
    go : (k : ℕ) → k < w + 1 → Dec (k ≡ w) → get_or (set ws w 0) k 0 ≡ 0
    go k l (yes q) = rw q (get_or-set_same ws w 0 0 h)
    go k l (no d) = get_or-set_other ws w k 0 0 d ∙ b.zeros k (omega arith)

-- a word that is 0 stays
pub blank_skip : (us ws : List ℕ) (w : ℕ) → w < length ws → get_or ws w 0 ≡ 0 → Blank us ws w → Blank us ws (w + 1)
blank_skip us ws w h e b = record { long = b.long; most = omega (arith, b.long); zeros = λ k l. go k l (ℕ_discrete k w) }
  where
    go : (k : ℕ) → k < w + 1 → Dec (k ≡ w) → get_or ws k 0 ≡ 0
    go k l (yes q) = rw q e
    go k l (no n) = b.zeros k (omega (arith, n))

pub blank_end : (us ws : List ℕ) (w : ℕ) → length ws ≤ w → Blank us ws w → ws ≡ none (length us)
unfolding none
blank_end us ws w h b =
    ext_get_or 0 ws (replicate (length us) 0) (b.long ∙ sym (length-replicate (length us) 0))
    (λ i l. b.zeros i (omega arith) ∙ sym (get_or-replicate (length us) i 0 0 (omega (arith, b.long))))
