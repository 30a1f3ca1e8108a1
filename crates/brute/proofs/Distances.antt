-- Laws of clipped words and of distances. Assumes nothing.
use mathlib.Core.Path.{◌≡◌, refl, sym, ap, ◌∙◌}
use mathlib.Core.Bool.{Bool, true, false, cond, ◌&&◌, true≢false}
use Rattle.std.proofs.Common.{max}
use Prim.Native.Nat.{ℕ, ◌+◌, ◌*◌, ◌-◌, ◌≤◌, ◌<◌, ◌^◌}
use native.Mathlib.Nat.{mul-le-mul}
use native.Mathlib.Omega.{arith}
use lib.Dec.{leb, ltb}
use lib.IntN.{ℤ, pos, negsuc, nat_abs, ◌-ℤ◌}
use lib.Signed.{le_z, mag}
use mir.Syntax.{w32, w64}
use mir.Val.{to_z, of_z}
use mir.Facts.{to_z-of_z}
use borrow.Author.Tests.{le-leb, lt-leb, leb-true, ltb-true, ltb-false}
use Rattle.integers.proofs.Bools.{test_iff}
use Rattle.integers.specs.Bounds.{Within}
use Rattle.integers.proofs.Order.{in_lit, sfits_in, abs_of, le_true}
use Rattle.integers.proofs.Cast.{result_is}
use Rattle.words.specs.Word.{within}
use Rattle.brute.specs.declared.Place.{Place}
use Rattle.brute.specs.Brute.{clip, across, apart, covers, larger, most}

-- ---- clipped words

pub clip_is : (z : ℤ) → within (negsuc 999999999) (pos 1000000000) z ≡ true → z ≡ clip z
unfolding within clip
clip_is z e = go (le_z (negsuc 999999999) z) (le_z z (pos 1000000000)) e
  where
    go : (s t : Bool) → (s && t) ≡ true → z ≡ cond s (cond t z (pos 0)) (pos 0)
    go true true e = refl
    go true false e = absurd (true≢false (sym e))
    go false t e = absurd (true≢false (sym e))

pub clip_out : (z : ℤ) → within (negsuc 999999999) (pos 1000000000) z ≡ false → pos 0 ≡ clip z
unfolding within clip
clip_out z e = go (le_z (negsuc 999999999) z) (le_z z (pos 1000000000)) e
  where
    go : (s t : Bool) → (s && t) ≡ false → pos 0 ≡ cond s (cond t z (pos 0)) (pos 0)
    go true true e = absurd (true≢false e)
    go true false e = refl
    go false t e = refl

pub clip_in : (z : ℤ) → Within 1000000000 (clip z)
unfolding clip
clip_in z = go (le_z (negsuc 999999999) z) (le_z z (pos 1000000000)) refl refl
  where
    go : (s t : Bool) → le_z (negsuc 999999999) z ≡ s → le_z z (pos 1000000000) ≡ t → Within 1000000000 (cond s (cond t z (pos 0)) (pos 0))
    go true true e f = record { abs = abs_of z 1000000000 (omega (arith, le_true z (pos 1000000000) f)) (omega (arith, le_true (negsuc 999999999) z e)) }
    go true false e f = in_lit tt
    go false t e f = in_lit tt

-- ---- squares

pub square_le : {d m : ℕ} → d ≤ m → d * d ≤ m * m
square_le h = mul-le-mul h h

-- a coordinate, read back from its bits
pub brute_back : {z : ℤ} → Within 1000000000 z → to_z w64 (of_z w64 z) ≡ z
brute_back w = to_z-of_z (sfits_in {w = w64} w tt)

-- and one of the turned map
pub turned_back : {z : ℤ} → Within 2000000000 z → to_z w64 (of_z w64 z) ≡ z
turned_back w = to_z-of_z (sfits_in {w = w64} w tt)

-- a word of a slice, clipped by a call
pub clipped_is : (z : ℤ) {r : ℤ} → mag z < 2 ^ 31 → mag r < 2 ^ 63 → r ≡ clip (to_z w32 (of_z w32 z)) → to_z w64 (of_z w64 r) ≡ clip z
clipped_is z h k e = result_is k (e ∙ ap clip (to_z-of_z {w = w32} {z = z} (record { sfits = h })))

-- ---- the test that the code makes axis by axis is that of the sums
module _ (a b z : Place) {e f x y : ℕ} (ex : e ≡ across a.x b.x) (ey : f ≡ across a.y b.y) (zx : x ≡ apart a.x b.x z.x) (zy : y ≡ apart a.y b.y z.y) where
  sums : leb (x + y) (e + f) ≡ covers a b z
  unfolding covers
  sums = λ i. leb (zx i + zy i) (ex i + ey i)

  pub covers_not : e + f < x → false ≡ covers a b z
  covers_not h = sym (lt-leb (x + y) (e + f) (omega arith)) ∙ sums

  pub covers_by : x ≤ e + f → leb y (e + f - x) ≡ covers a b z
  covers_by h =
      test_iff _ _ (λ t. le-leb (x + y) (e + f) (omega (arith, leb-true y (e + f - x) t))) (λ t. le-leb y (e + f - x) (omega (arith, leb-true (x + y) (e + f) t)))
      ∙ sums

-- ---- the greater of two distances
module _ (a b : Place) {u v : ℕ} (eu : u ≡ nat_abs (a.x -ℤ b.x)) (ev : v ≡ nat_abs (a.y -ℤ b.y)) where
  pub most_is : max u v ≡ most a b
  unfolding most larger
  most_is = rw (sym eu, sym ev) (go (ltb u v) refl)
    where
      go : (t : Bool) → ltb u v ≡ t → max u v ≡ cond t v u
      go true e = omega (arith, ltb-true u v e)
      go false e = omega (arith, ltb-false u v e)
