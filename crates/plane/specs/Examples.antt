-- Document 01's starred checked examples that speak of places and boxes, as one table: what is asked, and what is to be answered. Those that request 3
-- turns round stand here as it says: "01's two examples with records on one spot turn round, and its box (3,-1) to (9,4) is opened".
-- `starred` of proofs/Examples computes that every entry holds. A second table has examples of the street grid. Those that speak of another record on one spot stand in the crate list, too.
use Rattle.std.specs.Prelude.{Bool, true, false, ◌&&◌, List, [], ◌∷◌, ℕ, eqb, ℤ, pos, neg_ℤ}
use Rattle.std.specs.Bool.{beq}
use Rattle.plane.specs.declared.Spot.{Spot}
use Rattle.plane.specs.declared.Boxed.{Boxed}
use Rattle.plane.specs.Rule.{spot, dot, same, blocks, drops, drops_box, size, gap, far}
use Rattle.plane.specs.Profile.{circle, grid, streets, across, centre, away, side_in}

pub data Case : Type 0 where
  -- the pair a, b and another point x: the product (a-x)·(b-x), and whether x blocks
  blocking : Spot → Spot → Spot → ℤ → Bool → Case
  -- q, a kept p and a point: the product (q-p)·(p'-p), and whether p' is skipped
  skipping : Spot → Spot → Spot → ℤ → Bool → Case
  -- q, a kept p and a box: whether the box is skipped
  box_skipping : Spot → Spot → Boxed → Bool → Case
  -- the circle on a, b and a box: the squared distance of twice the centre to the doubled box, |a-b| squared, whether the box is skipped by rule (1),
  -- and the side that blocks by rule (2): 0 left, 1 bottom, 2 right, 3 top, 4 none
  entering : Spot → Spot → Boxed → ℤ → ℤ → Bool → ℕ → Case
  -- of the street grid, the pair a, b and another point x: the distance of 2x and a + b, that of a and b, and whether x blocks
  street_blocking : Spot → Spot → Spot → ℕ → ℕ → Bool → Case
  -- and a box: the distance of a + b to the doubled box, that of a and b, whether the box is skipped by rule (1), and the side that blocks by rule (2)
  street_entering : Spot → Spot → Boxed → ℕ → ℕ → Bool → ℕ → Case
  -- the size that the pair a, b carries along the streets, and the circle's
  sizes : Spot → Spot → ℕ → ℕ → Case

unfoldable pub holds : Case → Bool
holds (blocking a b x v t) = same (dot a b x) v && beq (blocks a b x) t
holds (skipping q p z v t) = same (dot q z p) v && beq (drops q p z) t
holds (box_skipping q p o t) = beq (drops_box q p o) t
holds (entering a b o g d f s) = same (gap a b o) g && same (size a b) d && beq (far a b o) f && eqb (side_in circle a b o) s
holds (street_blocking a b x v d t) = eqb (centre streets a b x) v && eqb (across streets a b) d && beq (grid.blocks a b x) t
holds (street_entering a b o g d f s) = eqb (away streets a b o) g && eqb (across streets a b) d && beq (grid.far a b o) f && eqb (side_in grid a b o) s
holds (sizes a b s c) = eqb (grid.size a b) s && eqb (circle.size a b) c

unfoldable pub all_hold : List Case → Bool
all_hold [] = true
all_hold (c ∷ l) = holds c && all_hold l

abbrev at : ℕ → ℕ → Spot
at x y = spot (pos x) (pos y)

abbrev box : ℤ → ℤ → ℤ → ℤ → Boxed
box a b c d = record { xmin = a; ymin = b; xmax = c; ymax = d }

-- [X1, X2, X3, X4, X5, X6, X7, X8, X18]
unfoldable pub table : List Case
table =
    -- "(0,0),(4,0): (2,2) blocks, the product is 0. (2,3) doesn't, 5. (2,1) blocks, -3. another record at (0,0) blocks.": that turns round
    blocking (at 0 0) (at 4 0) (at 2 2) (pos 0) true
    ∷ blocking (at 0 0) (at 4 0) (at 2 3) (pos 5) false
    ∷ blocking (at 0 0) (at 4 0) (at 2 1) (neg_ℤ (pos 3)) true
    ∷ blocking (at 0 0) (at 4 0) (at 0 0) (pos 0) false
    -- "(7,7),(7,7): (7,8) doesn't block, 1; a third record at (7,7) does.": that turns round
    ∷ blocking (at 7 7) (at 7 7) (at 7 8) (pos 1) false
    ∷ blocking (at 7 7) (at 7 7) (at 7 7) (pos 0) false
    -- "q (0,0), kept (3,0): (3,5) skipped; (2,5) kept, 3. Box (3,-1) to (9,4) skipped.": that is opened
    ∷ skipping (at 0 0) (at 3 0) (at 3 5) (pos 0) true
    ∷ skipping (at 0 0) (at 3 0) (at 2 5) (pos 3) false
    ∷ box_skipping (at 0 0) (at 3 0) (box (pos 3) (neg_ℤ (pos 1)) (pos 9) (pos 4)) false
    -- request 3's other sentences: a point at the kept point's place, and any point or box where the kept point stands at q's place
    ∷ skipping (at 0 0) (at 3 0) (at 3 0) (pos 0) false
    ∷ skipping (at 3 0) (at 3 0) (at 3 5) (pos 0) false
    ∷ box_skipping (at 3 0) (at 3 0) (box (pos 4) (neg_ℤ (pos 1)) (pos 9) (pos 4)) false
    ∷ box_skipping (at 0 0) (at 3 0) (box (pos 4) (neg_ℤ (pos 1)) (pos 9) (pos 4)) true
    ∷ box_skipping (at 0 0) (at 3 0) (box (pos 3) (pos 1) (pos 9) (pos 4)) true
    -- "Circle (0,0),(4,0): box (1,0) to (9,1) blocks by its left side. Box (0,0) to (0,0) doesn't, and is opened.
    -- Box (2,2) to (5,5) is opened, 16 against 16. Box (4,1) to (6,6) is skipped, 20 against 16."
    ∷ entering (at 0 0) (at 4 0) (box (pos 1) (pos 0) (pos 9) (pos 1)) (pos 0) (pos 16) false 0
    ∷ entering (at 0 0) (at 4 0) (box (pos 0) (pos 0) (pos 0) (pos 0)) (pos 16) (pos 16) false 4
    ∷ entering (at 0 0) (at 4 0) (box (pos 2) (pos 2) (pos 5) (pos 5)) (pos 16) (pos 16) false 4
    ∷ entering (at 0 0) (at 4 0) (box (pos 4) (pos 1) (pos 6) (pos 6)) (pos 20) (pos 16) true 4
    ∷ []

-- Request 12: the same pairs and boxes along the streets
unfoldable pub street_table : List Case
street_table =
    -- (0,0),(4,0): (2,2) and (3,1) are on the border and block, 4 against 4; (2,3) doesn't, 6; nor does another record at an end's place
    street_blocking (at 0 0) (at 4 0) (at 2 2) 4 4 true
    ∷ street_blocking (at 0 0) (at 4 0) (at 3 1) 4 4 true
    ∷ street_blocking (at 0 0) (at 4 0) (at 2 3) 6 4 false
    ∷ street_blocking (at 0 0) (at 4 0) (at 0 0) 4 4 false
    ∷ street_blocking (at 0 0) (at 4 0) (at 4 0) 4 4 false
    -- halves count: of (0,0),(1,0) the place (1,1) is 3 away, against 1
    ∷ street_blocking (at 0 0) (at 1 0) (at 1 1) 3 1 false
    -- one chamber (0,0) and two pump houses, (4,4) and (5,3): each blocks the other's pair, and there is no visit; the circle has one
    ∷ street_blocking (at 0 0) (at 4 4) (at 5 3) 8 8 true
    ∷ street_blocking (at 0 0) (at 5 3) (at 4 4) 8 8 true
    ∷ blocking (at 0 0) (at 4 4) (at 5 3) (pos 2) false
    -- Box (2,2) to (5,5) is opened, 4 against 4. Box (4,1) to (6,6) is skipped, 6 against 4. Box (0,0) to (0,0) is opened: its corner is on the border.
    ∷ street_entering (at 0 0) (at 4 0) (box (pos 2) (pos 2) (pos 5) (pos 5)) 4 4 false 4
    ∷ street_entering (at 0 0) (at 4 0) (box (pos 4) (pos 1) (pos 6) (pos 6)) 6 4 true 4
    ∷ street_entering (at 0 0) (at 4 0) (box (pos 0) (pos 0) (pos 0) (pos 0)) 4 4 false 4
    -- Box (1,0) to (9,1), which blocks the circle by its left side, doesn't here: (1,1) is on the border. Box (2,0) to (9,1) does.
    ∷ street_entering (at 0 0) (at 4 0) (box (pos 1) (pos 0) (pos 9) (pos 1)) 0 4 false 4
    ∷ street_entering (at 0 0) (at 4 0) (box (pos 2) (pos 0) (pos 9) (pos 1)) 0 4 false 0
    -- 3 and 4 are 7 along the streets: 49, where the squared diameter is 25
    ∷ sizes (at 0 0) (at 3 4) 49 25
    ∷ []
