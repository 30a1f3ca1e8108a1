-- What `contains` answers at a range with both its ends, as a test of each end.
-- Assumes nothing.
use Rattle.std.proofs.Common.{◌≡◌, refl, sym, ap₂, ◌∙◌, ◌&&◌, Bool, true, false, cond, not, ℕ, ℤ, arith, Some, leb, ltb, eqb}
use Rattle.std.specs.Ordering.{nat_cmp, int_cmp, is_le}
use Rattle.std.proofs.Common.{Less, Equal, Greater}
use Rattle.std.specs.declared.ops.RangeInclusive.{RangeInclusive}
use Rattle.std.specs.Range.{range_inclusive_start, range_inclusive_end, range_inclusive_exhausted, range_inclusive_contains}
use Rattle.std.specs.Int.Signed.{le_z, lt_z}
use Rattle.std.proofs.lemmas.Bool.{le-leb, lt-leb, ltb-true, ltb-false, eqb-true, eqb-false}
use Rattle.integers.proofs.Order.{zl, le_z_not}
use Rattle.words.specs.Word.{within}

le_int : (a b : ℤ) → is_le (int_cmp a b) ≡ le_z a b
le_int a b = go (lt_z a b) (lt_z b a) refl refl ∙ sym (le_z_not a b)
  where
    go : (s t : Bool) → lt_z a b ≡ s → lt_z b a ≡ t → is_le (cond s Less (cond t Greater Equal)) ≡ not t
    go true true e f = absurd (omega zl)
    go true false e f = refl
    go false true e f = refl
    go false false e f = refl

le_nat : (a b : ℕ) → is_le (nat_cmp a b) ≡ leb a b
le_nat a b = go (ltb a b) (eqb a b) refl refl
  where
    go : (s t : Bool) → ltb a b ≡ s → eqb a b ≡ t → is_le (cond s Less (cond t Equal Greater)) ≡ leb a b
    go true t e f = sym (le-leb a b (omega (arith, ltb-true a b e)))
    go false true e f = sym (le-leb a b (omega (arith, eqb-true a b f)))
    go false false e f = sym (lt-leb a b (omega (arith, ltb-false a b e, eqb-false a b f)))

-- of words
pub in_words : (r : RangeInclusive ℤ) (lo hi x : ℤ) → range_inclusive_start r ≡ lo → range_inclusive_end r ≡ hi → range_inclusive_exhausted r ≡ false → range_inclusive_contains (λ a b. Some (int_cmp a b)) r x ≡ within lo hi x
unfolding within
in_words r lo hi x s e f = rw (s, e, f) (ap₂ (λ (a b : Bool). a && b) (le_int lo x) (le_int x hi))

-- of numbers
pub in_numbers : (r : RangeInclusive ℕ) (lo hi x : ℕ) → range_inclusive_start r ≡ lo → range_inclusive_end r ≡ hi → range_inclusive_exhausted r ≡ false → range_inclusive_contains (λ a b. Some (nat_cmp a b)) r x ≡ (leb lo x && leb x hi)
in_numbers r lo hi x s e f = rw (s, e, f) (ap₂ (λ (a b : Bool). a && b) (le_nat lo x) (le_nat x hi))
