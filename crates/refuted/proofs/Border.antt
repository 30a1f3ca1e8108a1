-- Wrong readings of the border of a province: when a pair of the country may be asked of the part that stands in a box.
use mathlib.Core.Path.{◌≡◌, refl}
use mathlib.Core.Bool.{Bool, true, false, cond, ◌&&◌}
use mathlib.Core.List.{List, [], ◌∷◌}
use Prim.Native.Nat.{ℕ, ◌*◌}
use lib.Dec.{leb}
use lib.IntN.{pos, ◌+ℤ◌, ◌-ℤ◌, ◌*ℤ◌}
use lib.Signed.{le_z, lt_z}
use Rattle.words.specs.All.{all_b}
use Rattle.plane.specs.declared.Spot.{Spot}
use Rattle.plane.specs.declared.Boxed.{Boxed}
use Rattle.plane.specs.Rule.{spot, sq, same_spot, in_box, blocks, drops_box}
use Rattle.plane.specs.Profile.{circle, grid, blocks_by}
use Rattle.plane.specs.Point.{Point}
use Rattle.list.specs.Rows.{row}
use Rattle.list.specs.RingList.{unblocked, ring_pair_by, ring_pair, partners_of}
use Rattle.border.specs.Border.{part_of, circle_in, widened}
use Rattle.refuted.proofs.Cases.{at}

abbrev place : ℕ → ℕ → Spot
place x y = spot (pos x) (pos y)

abbrev box : ℕ → ℕ → ℕ → ℕ → Boxed
box a b c d = record { xmin = pos a; ymin = pos b; xmax = pos c; ymax = pos d }

-- the chamber at (20,20) and the pump house at (24,20): the circle goes from 20 to 24 and from 18 to 22
abbrev chamber : List Point
chamber = at 5 20 20 ∷ []

abbrev pump : Point
pump = at 1 24 20

-- Both ends stand in the box. A pair must be asked of a larger sheet where its circle leaves the box: (22,19) is in the circle, and not in the box. [Q1]
abbrev ends_in : Boxed → Spot → Spot → Bool
ends_in r a b = in_box r a && in_box r b

abbrev under : List Point
under = pump ∷ at 2 22 19 ∷ []

pub ends_alone_wrong :
    (ends_in (box 10 20 30 30) (place 20 20) (place 24 20) ≡ true) × (circle_in circle (box 10 20 30 30) (place 20 20) (place 24 20) ≡ false)
    × (ring_pair (part_of (box 10 20 30 30) under) (part_of (box 10 20 30 30) chamber) 0 0 ≡ true) × (ring_pair under chamber 0 0 ≡ false)
unfolding circle_in part_of in_box ring_pair_by unblocked all_b same_spot blocks
ends_alone_wrong = (refl, refl, refl, refl)

-- A chamber that has no pair in the part has none in the country; or, of a chamber the circles of whose pairs all lie in the box, these are all its pairs. The pump house at (24,20) stands outside the
-- box, and nothing blocks it: what is outside must be behind records of the part, too. [Q5, Q6]
pub chamber_alone_wrong : (partners_of (part_of (box 10 10 22 30) (pump ∷ [])) (part_of (box 10 10 22 30) chamber) 0 ≡ 0) × (partners_of (pump ∷ []) chamber 0 ≡ 1)
unfolding partners_of row part_of in_box ring_pair_by unblocked all_b same_spot blocks
chamber_alone_wrong = (refl, refl)

-- A chamber that has all outside the box behind records of the part is settled. The circle of each of its pairs must lie in the box, too: all to the right of 6 is behind (5,7), as seen from (3,7), and
-- (7,4), which stands there, blocks the pair of (3,7) and (4,0) all the same. [Q5]
abbrev rightmost : List Point
rightmost = at 1 4 0 ∷ at 2 5 7 ∷ at 3 7 4 ∷ []

pub closed_alone_wrong :
    (drops_box (place 3 7) (place 5 7) (box 7 0 8 8) ≡ true) × (circle_in circle (box 0 0 6 8) (place 3 7) (place 4 0) ≡ false)
    × (ring_pair (part_of (box 0 0 6 8) rightmost) (part_of (box 0 0 6 8) (at 5 3 7 ∷ [])) 0 0 ≡ true) × (ring_pair rightmost (at 5 3 7 ∷ []) 0 0 ≡ false)
unfolding drops_box circle_in part_of in_box ring_pair_by unblocked all_b same_spot blocks
closed_alone_wrong = (refl, refl, refl, refl)

-- The sheets hold the core's records alone, with no margin, and pairs with both ends in the core are asked of them. The circle goes over the core's side, as far as half of its diameter.
-- [Q3]
pub no_margin_wrong :
    (leb (circle.size (place 20 20) (place 24 20)) (2 * 2 * (2 * 2)) ≡ true)
    × (ring_pair (part_of (widened 0 (box 20 20 30 30)) under) (part_of (widened 0 (box 20 20 30 30)) chamber) 0 0 ≡ true)
    × (ring_pair (part_of (widened 2 (box 20 20 30 30)) under) (part_of (widened 2 (box 20 20 30 30)) chamber) 0 0 ≡ false) × (ring_pair under chamber 0 0 ≡ false)
unfolding part_of in_box ring_pair_by unblocked all_b same_spot blocks
no_margin_wrong = (refl, refl, refl, refl)

-- Half of the margin. Both ends in the core must be at most two margins apart: with a margin of 1 and ends 4 apart, (22,18) on the circle is left out. [Q3]
abbrev four_margins : ℕ → Boxed → Spot → Spot → Bool
four_margins m c a b = ends_in c a b && leb (circle.size a b) (4 * m * (4 * m))

abbrev below : List Point
below = pump ∷ at 2 22 18 ∷ []

pub half_margin_wrong :
    (four_margins 1 (box 20 20 30 30) (place 20 20) (place 24 20) ≡ true) × (circle_in circle (widened 1 (box 20 20 30 30)) (place 20 20) (place 24 20) ≡ false)
    × (ring_pair (part_of (widened 1 (box 20 20 30 30)) below) (part_of (widened 1 (box 20 20 30 30)) chamber) 0 0 ≡ true) × (ring_pair below chamber 0 0 ≡ false)
unfolding circle_in part_of in_box ring_pair_by unblocked all_b same_spot blocks
half_margin_wrong = (refl, refl, refl, refl)

-- The chamber in the core, at most two margins apart. With one end in the core it is one margin: (24,20) is 4 from the core, and no record of a part with a margin of 2. [Q3, Q4]
abbrev two_from_chamber : ℕ → Boxed → Spot → Spot → Bool
two_from_chamber m c a b = in_box c a && leb (circle.size a b) (2 * m * (2 * m))

pub chamber_margin_wrong :
    (two_from_chamber 2 (box 10 10 20 30) (place 20 20) (place 24 20) ≡ true) × (part_of (widened 2 (box 10 10 20 30)) (pump ∷ []) ≡ []) × (ring_pair (pump ∷ []) chamber 0 0 ≡ true)
unfolding part_of in_box ring_pair_by unblocked all_b same_spot blocks
chamber_margin_wrong = (refl, refl, refl)

-- Records on the border of the box are left out. "on its sides too": (22,18) is on the circle and on the side that the circle touches. [Q1]
abbrev strictly_in : Boxed → Spot → Bool
strictly_in r z = lt_z r.xmin z.x && lt_z z.x r.xmax && lt_z r.ymin z.y && lt_z z.y r.ymax

abbrev strict_part : Boxed → List Point → List Point
strict_part r [] = []
strict_part r (p ∷ s) = cond (strictly_in r p.spot) (p ∷ strict_part r s) (strict_part r s)

pub border_left_out_wrong :
    (circle_in circle (box 10 18 30 30) (place 20 20) (place 24 20) ≡ true) × (ring_pair (strict_part (box 10 18 30 30) below) (strict_part (box 10 18 30 30) chamber) 0 0 ≡ true)
    × (ring_pair (part_of (box 10 18 30 30) below) (part_of (box 10 18 30 30) chamber) 0 0 ≡ false) × (ring_pair below chamber 0 0 ≡ false)
unfolding circle_in part_of in_box ring_pair_by unblocked all_b same_spot blocks
border_left_out_wrong = (refl, refl, refl, refl)

-- The margin of one set alone. "all records of both sets": of the chambers the core's alone are there, and (22,18) is one. [Q1]
abbrev chambers_below : List Point
chambers_below = at 5 20 20 ∷ at 6 22 18 ∷ []

pub one_set_wrong :
    (circle_in circle (widened 2 (box 20 20 30 30)) (place 20 20) (place 24 20) ≡ true)
    × (ring_pair (part_of (widened 2 (box 20 20 30 30)) (pump ∷ [])) (part_of (box 20 20 30 30) chambers_below) 0 0 ≡ true) × (ring_pair (pump ∷ []) chambers_below 0 0 ≡ false)
unfolding circle_in part_of in_box ring_pair_by unblocked all_b same_spot blocks
one_set_wrong = (refl, refl, refl)

-- The squares alone. "on the inner side of it": a circle far outside of the box passes the squares, and no record of it is of the part. [Q1]
abbrev squares_in : Boxed → Spot → Spot → Bool
squares_in r a b =
    le_z (pos (circle.size a b)) (sq (a.x +ℤ b.x -ℤ pos 2 *ℤ r.xmin)) && le_z (pos (circle.size a b)) (sq (pos 2 *ℤ r.xmax -ℤ (a.x +ℤ b.x)))
    && (le_z (pos (circle.size a b)) (sq (a.y +ℤ b.y -ℤ pos 2 *ℤ r.ymin)) && le_z (pos (circle.size a b)) (sq (pos 2 *ℤ r.ymax -ℤ (a.y +ℤ b.y))))

pub squares_alone_wrong :
    (squares_in (box 50 10 60 30) (place 20 20) (place 24 20) ≡ true) × (circle_in circle (box 50 10 60 30) (place 20 20) (place 24 20) ≡ false)
    × (part_of (box 50 10 60 30) (pump ∷ []) ≡ []) × (ring_pair (pump ∷ []) chamber 0 0 ≡ true)
unfolding circle_in part_of in_box ring_pair_by unblocked all_b same_spot blocks
squares_alone_wrong = (refl, refl, refl, refl)

-- The circle for the diamond. Along the streets (20,20) and (24,24) are 8 apart, and the diamond goes from 18 to 26: the circle, from 19 to 25, lies in a box that leaves (22,26) out.
-- [Q1]
abbrev across : List Point
across = at 1 24 24 ∷ at 2 22 26 ∷ []

pub circle_for_diamond_wrong :
    (circle_in circle (box 19 19 25 25) (place 20 20) (place 24 24) ≡ true) × (circle_in grid (box 19 19 25 25) (place 20 20) (place 24 24) ≡ false)
    × (ring_pair_by grid (part_of (box 19 19 25 25) across) (part_of (box 19 19 25 25) chamber) 0 0 ≡ true) × (ring_pair_by grid across chamber 0 0 ≡ false)
unfolding circle_in part_of in_box ring_pair_by unblocked all_b same_spot blocks_by
circle_for_diamond_wrong = (refl, refl, refl, refl)
