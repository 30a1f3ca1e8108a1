-- Wrong readings of the rules of places and boxes.
use mathlib.Core.Path.{◌≡◌, refl}
use mathlib.Core.Bool.{Bool, true, false, not, cond, ◌&&◌}
use Prim.Native.Nat.{ℕ}
use lib.IntN.{ℤ, pos, ◌+ℤ◌, ◌*ℤ◌}
use lib.Signed.{le_z, lt_z, shr_z}
use Rattle.plane.specs.declared.Spot.{Spot}
use Rattle.plane.specs.declared.Boxed.{Boxed}
use Rattle.plane.specs.Rule.{spot, sq, dot, same_spot, in_box, blocks, drops, behind, drops_box, size, out, far, inside}
use Rattle.plane.specs.Profile.{circle, corners_in, side_in}

abbrev at : ℕ → ℕ → Spot
at x y = spot (pos x) (pos y)

abbrev box : ℕ → ℕ → ℕ → ℕ → Boxed
box a b c d = record { xmin = pos a; ymin = pos b; xmax = pos c; ymax = pos d }

-- ---- the ring rule

-- A point on the circle itself does not block. "x blocks the pair a, b when (a-x)·(b-x) <= 0": (2,2) does. [R1, R2, X1]
abbrev open_circle : Spot → Spot → Spot → Bool
open_circle a b z = lt_z (dot a b z) (pos 0) && not (same_spot z a) && not (same_spot z b)

pub open_circle_wrong : (open_circle (at 0 0) (at 4 0) (at 2 2) ≡ false) × (blocks (at 0 0) (at 4 0) (at 2 2) ≡ true)
unfolding blocks same_spot
open_circle_wrong = (refl, refl)

-- The rule from before request 3. "A record at exactly the place of either end doesn't count as another point." [O1, X2]
abbrev end_spot : Spot → Spot → Spot → Bool
end_spot a b z = le_z (dot a b z) (pos 0)

pub end_spot_wrong : (end_spot (at 0 0) (at 4 0) (at 0 0) ≡ true) × (blocks (at 0 0) (at 4 0) (at 0 0) ≡ false)
unfolding blocks same_spot
end_spot_wrong = (refl, refl)

-- Only the place of the first end is excused: "either end". [O1, O3]
abbrev one_end : Spot → Spot → Spot → Bool
one_end a b z = le_z (dot a b z) (pos 0) && not (same_spot z a)

pub one_end_wrong : (one_end (at 0 0) (at 4 0) (at 4 0) ≡ true) × (blocks (at 0 0) (at 4 0) (at 4 0) ≡ false)
unfolding blocks same_spot
one_end_wrong = (refl, refl)

-- ---- the filter

-- A kept point at q's place skips a point. "A kept point at q's place skips nothing." [O2]
abbrev kept_at_q : Spot → Spot → Spot → Bool
kept_at_q q p z = behind q p z && not (same_spot p z)

pub kept_at_q_wrong : (kept_at_q (at 3 0) (at 3 0) (at 3 5) ≡ true) × (drops (at 3 0) (at 3 0) (at 3 5) ≡ false)
unfolding drops blocks same_spot
kept_at_q_wrong = (refl, refl)

-- What is true of a box that is skipped: each place in it is skipped too. A wrong rule of boxes skips a box and with it a place that is to be kept.
pub record Loses (rule : Spot → Spot → Boxed → Bool) : Type 0 where
  pub q : Spot
  pub p : Spot
  pub o : Boxed
  pub z : Spot
  pub skipped : rule q p o ≡ true
  pub holds : in_box o z ≡ true
  pub kept : drops q p z ≡ false
  pub right : drops_box q p o ≡ false

-- "Skipping a box when its centre, or three corners, lie behind the line." Three corners: the fourth is not behind it. [W4, V10]
abbrev three_corners : Spot → Spot → Boxed → Bool
three_corners q p o =
    behind q p (spot o.xmin o.ymin) && behind q p (spot o.xmin o.ymax) && behind q p (spot o.xmax o.ymin) && not (same_spot p q) && not (in_box o p)

pub three_corners_wrong : Loses three_corners
unfolding in_box drops blocks same_spot drops_box
three_corners_wrong = record { q = at 10 10; p = at 2 2; o = box 0 0 4 1; z = at 4 1; skipped = refl; holds = refl; kept = refl; right = refl }

-- The centre: half of the box may lie before the line. [V9]
abbrev centre_behind : Spot → Spot → Boxed → Bool
centre_behind q p o = behind q p (spot (shr_z (o.xmin +ℤ o.xmax) 2) (shr_z (o.ymin +ℤ o.ymax) 2)) && not (same_spot p q) && not (in_box o p)

pub centre_behind_wrong : Loses centre_behind
unfolding in_box drops blocks same_spot drops_box
centre_behind_wrong = record { q = at 10 0; p = at 4 0; o = box 0 1 8 1; z = at 8 1; skipped = refl; holds = refl; kept = refl; right = refl }

-- The corner nearest along the way from p to q: "Only the corner farthest along the direction from the kept point to q can decide". [W9, W10]
abbrev near_end : ℤ → ℤ → ℤ → ℤ → ℤ
near_end q p lo hi = cond (lt_z p q) lo hi

abbrev nearest_corner : Spot → Spot → Boxed → Bool
nearest_corner q p o =
    behind q p (spot (near_end q.x p.x o.xmin o.xmax) (near_end q.y p.y o.ymin o.ymax)) && not (same_spot p q) && not (in_box o p)

pub nearest_corner_wrong : Loses nearest_corner
unfolding in_box drops blocks same_spot drops_box
nearest_corner_wrong = record { q = at 10 0; p = at 4 0; o = box 0 1 8 1; z = at 8 1; skipped = refl; holds = refl; kept = refl; right = refl }

-- A box that contains the kept point is skipped. "A box containing the kept point's place is opened as far as that point goes": another point may stand there. [O4, X4]
abbrev kept_inside : Spot → Spot → Boxed → Bool
kept_inside q p o =
    behind q p (spot o.xmin o.ymin) && behind q p (spot o.xmin o.ymax) && behind q p (spot o.xmax o.ymin) && behind q p (spot o.xmax o.ymax)
    && not (same_spot p q)

pub kept_inside_wrong : Loses kept_inside
unfolding in_box drops blocks same_spot drops_box
kept_inside_wrong = record { q = at 0 0; p = at 3 0; o = box 3 0 9 4; z = at 3 0; skipped = refl; holds = refl; kept = refl; right = refl }

-- A kept point at q's place skips a box. [O2]
abbrev box_at_q : Spot → Spot → Boxed → Bool
box_at_q q p o =
    behind q p (spot o.xmin o.ymin) && behind q p (spot o.xmin o.ymax) && behind q p (spot o.xmax o.ymin) && behind q p (spot o.xmax o.ymax)
    && not (in_box o p)

pub box_at_q_wrong : Loses box_at_q
unfolding in_box drops blocks same_spot drops_box
box_at_q_wrong = record { q = at 3 0; p = at 3 0; o = box 4 0 9 4; z = at 4 0; skipped = refl; holds = refl; kept = refl; right = refl }

-- ---- the ring walk's rules

-- "Halving the centre in whole numbers": a box is called far and holds a place that blocks. [W13, V8]
abbrev halved_gap : Spot → Spot → Boxed → ℤ
halved_gap a b o =
    sq (out (pos 2 *ℤ o.xmin) (pos 2 *ℤ o.xmax) (pos 2 *ℤ shr_z (a.x +ℤ b.x) 2)) +ℤ sq (out (pos 2 *ℤ o.ymin) (pos 2 *ℤ o.ymax) (pos 2 *ℤ shr_z (a.y +ℤ b.y) 2))

abbrev halved_centre : Spot → Spot → Boxed → Bool
halved_centre a b o = lt_z (size a b) (halved_gap a b o)

pub halved_centre_wrong :
    (halved_centre (at 0 1) (at 1 0) (box 1 1 1 1) ≡ true) × (far (at 0 1) (at 1 0) (box 1 1 1 1) ≡ false) × (blocks (at 0 1) (at 1 0) (at 1 1) ≡ true)
unfolding far blocks same_spot
halved_centre_wrong = (refl, refl, refl)

-- "Letting a side that touches the circle block: the touching point may be the end itself. A leaf holding only p would kill every pair of p." [W14, V7]
abbrev touching : Spot → Spot → Spot → Bool
touching a b c = le_z (dot a b c) (pos 0)

abbrev touching_side : Spot → Spot → Boxed → Bool
touching_side a b o = touching a b (spot o.xmin o.ymin) && touching a b (spot o.xmin o.ymax)

pub touching_side_wrong :
    (touching_side (at 0 0) (at 4 0) (box 4 0 4 0) ≡ true) × (side_in circle (at 0 0) (at 4 0) (box 4 0 4 0) ≡ 4) × (blocks (at 0 0) (at 4 0) (at 4 0) ≡ false)
unfolding side_in inside blocks same_spot
touching_side_wrong = (refl, refl, refl)

-- Right is named before bottom. "the first that qualifies of left, bottom, right, top". [E1]
abbrev right_first : Spot → Spot → Boxed → ℕ
right_first a b o = cond (corners_in circle a b o 0) 0 (cond (corners_in circle a b o 2) 2 (cond (corners_in circle a b o 1) 1 (cond (corners_in circle a b o 3) 3 4)))

pub right_first_wrong : (right_first (at 0 0) (at 8 0) (box 1 1 4 3) ≡ 2) × (side_in circle (at 0 0) (at 8 0) (box 1 1 4 3) ≡ 1)
unfolding side_in inside
right_first_wrong = (refl, refl)
