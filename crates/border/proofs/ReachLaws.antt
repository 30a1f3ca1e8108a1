-- How far a circle reaches on either axis: what blocks a pair, and its ends, are no farther from its middle there than half of the way that its size is the square of. Of either profile.
--
--     Near           of a place, that
--     block_near     of what blocks; end_near: of the ends
--     spans          the ends are no farther apart on an axis
--     root_le        the greater number has the greater square, and no other
-- Assumes nothing.
use mathlib.Core.Path.{◌≡◌, refl, sym, ap, ◌∙◌}
use mathlib.Core.Bool.{Bool, true, false, not, ◌&&◌}
use mathlib.Core.Logic.{⊎_elim}
use Prim.Native.Nat.{ℕ, ◌*◌, ◌≤◌, ◌<◌}
use native.Mathlib.Omega.{arith}
use native.Mathlib.Nat.{mul-le-mul, mul-lt-mul_of_pos_right}
use lib.Dec.{leb}
use lib.IntN.{ℤ, pos, negsuc, nat_abs, ◌+ℤ◌, ◌-ℤ◌, ◌*ℤ◌}
use borrow.Author.Tests.{leb-true, leb-false}
use Rattle.integers.proofs.Order.{sum, diff, abs_n, abs_of}
use Rattle.integers.proofs.Linear.{pp_scale, nn_scale}
use Rattle.integers.proofs.Bools.{decide, and_left}
use Rattle.plane.specs.declared.Spot.{Spot}
use Rattle.plane.specs.Rule.{sq, same_spot}
use Rattle.plane.specs.Profile.{Measure, Profile, circle, across, centre, blocks_by, profile_of}
use Rattle.plane.proofs.MeasureLaws.{squares, circle_blocks}

-- ---- squares of whole numbers

pub root_le : (u w : ℕ) → u * u ≤ w * w → u ≤ w
root_le u w h =
    ⊎_elim
    (λ (e : leb u w ≡ true). leb-true u w e)
    (λ (e : leb u w ≡ false).
    let l = leb-false u w e in
    let some : 0 < u = omega arith in
    absurd (omega (arith, mul-le-mul {n₁ = w} {m₁ = w} {n₂ = w} {m₂ = u} (omega arith) (omega arith), mul-lt-mul_of_pos_right {m = w} {n = u} {k = u} l some)))
    (decide (leb u w))

pub square_is : (t : ℤ) → pos (nat_abs t * nat_abs t) ≡ sq t
square_is (pos n) = refl
square_is (negsuc n) = refl

-- ---- on either axis

-- a place is no farther from the middle, on either axis, than the circle reaches: so it is of what blocks, and of the ends
pub record Near (f : Profile) (a b z : Spot) : Type 0 where
  pub x_near : nat_abs (pos 2 *ℤ z.x -ℤ (a.x +ℤ b.x)) * nat_abs (pos 2 *ℤ z.x -ℤ (a.x +ℤ b.x)) ≤ f.size a b
  pub y_near : nat_abs (pos 2 *ℤ z.y -ℤ (a.y +ℤ b.y)) * nat_abs (pos 2 *ℤ z.y -ℤ (a.y +ℤ b.y)) ≤ f.size a b

-- ---- what blocks, and the ends

-- the size of a pair of the circle is that of the squares of the distances, added
size_squares : (a b : Spot) → circle.size a b ≡ across squares a b
size_squares a b = ap nat_abs (λ i. sym (square_is (a.x -ℤ b.x)) i +ℤ sym (square_is (a.y -ℤ b.y)) i)

centre_least : (m : Measure) (a b z : Spot) → blocks_by m a b z ≡ true → centre m a b z ≤ across m a b
unfolding blocks_by
centre_least m a b z e =
    leb-true (centre m a b z) (across m a b)
    (and_left (leb (centre m a b z) (across m a b)) (not (same_spot z a)) (and_left (leb (centre m a b z) (across m a b) && not (same_spot z a)) (not (same_spot z b)) e))

square_up : (u d : ℕ) → u ≤ d → u * u ≤ d * d
square_up u d h = mul-le-mul h h

pub block_near : (g : Bool) (a b z : Spot) → (profile_of g).blocks a b z ≡ true → Near (profile_of g) a b z
block_near false a b z e =
    let l = centre_least squares a b z (circle_blocks a b z ∙ e) in
    record { x_near = omega (arith, l, size_squares a b); y_near = omega (arith, l, size_squares a b) }
block_near true a b z e =
    let l = centre_least _ a b z e in
    record { x_near = square_up _ _ (omega arith); y_near = square_up _ _ (omega arith) }

-- the distance on an axis is at most the way of the ends
pub spans : (g : Bool) (a b : Spot) → (nat_abs (a.x -ℤ b.x) * nat_abs (a.x -ℤ b.x) ≤ (profile_of g).size a b) × (nat_abs (a.y -ℤ b.y) * nat_abs (a.y -ℤ b.y) ≤ (profile_of g).size a b)
spans false a b = (omega (arith, size_squares a b), omega (arith, size_squares a b))
spans true a b = (square_up _ _ (omega arith), square_up _ _ (omega arith))

-- twice an end is no farther from the sum than the ends from each other
left_off : (a b : ℤ) → nat_abs (pos 2 *ℤ a -ℤ (a +ℤ b)) ≤ nat_abs (a -ℤ b)
left_off a b = abs_of (pos 2 *ℤ a -ℤ (a +ℤ b)) (nat_abs (a -ℤ b)) (omega (arith, abs_n (a -ℤ b), diff a b, diff (pos 2 *ℤ a) (a +ℤ b), sum a b, pp_scale 2 a, nn_scale 2 a)) (omega (arith, abs_n (a -ℤ b), diff a b, diff (pos 2 *ℤ a) (a +ℤ b), sum a b, pp_scale 2 a, nn_scale 2 a))

right_off : (a b : ℤ) → nat_abs (pos 2 *ℤ b -ℤ (a +ℤ b)) ≤ nat_abs (a -ℤ b)
right_off a b = abs_of (pos 2 *ℤ b -ℤ (a +ℤ b)) (nat_abs (a -ℤ b)) (omega (arith, abs_n (a -ℤ b), diff a b, diff (pos 2 *ℤ b) (a +ℤ b), sum a b, pp_scale 2 b, nn_scale 2 b)) (omega (arith, abs_n (a -ℤ b), diff a b, diff (pos 2 *ℤ b) (a +ℤ b), sum a b, pp_scale 2 b, nn_scale 2 b))

pub end_near : (g : Bool) (a b : Spot) → Near (profile_of g) a b a × Near (profile_of g) a b b
end_near g a b =
    let s = spans g a b in (
      record { x_near = omega (arith, square_up _ _ (left_off a.x b.x), s.0); y_near = omega (arith, square_up _ _ (left_off a.y b.y), s.1) },
      record { x_near = omega (arith, square_up _ _ (right_off a.x b.x), s.0); y_near = omega (arith, square_up _ _ (right_off a.y b.y), s.1) },
    )
