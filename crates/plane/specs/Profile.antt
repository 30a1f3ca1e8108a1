-- The two profiles of a list: the circle of document 01, and the street grid of request 12. A profile says what blocks a pair, rules (1) and (2) of boxes, and the size that
-- a pair carries; all that is above places goes by any profile.
use Rattle.std.specs.Prelude.{◌≡◌, Bool, true, false, not, cond, ◌&&◌, ℕ, zero, suc, ◌+◌, ◌*◌, ◌<◌, leb, ltb, pos, nat_abs, ◌+ℤ◌, ◌-ℤ◌, ◌*ℤ◌}
use Rattle.plane.specs.declared.Spot.{Spot}
use Rattle.plane.specs.declared.Boxed.{Boxed}
use Rattle.plane.specs.Rule as rule
use Rattle.plane.specs.Rule.{spot, same_spot, out}

-- [A11]
pub record Profile : Type 0 where
  -- a place blocks the pair of two
  pub blocks : Spot → Spot → Spot → Bool
  -- (1): a box is so far from the pair of two places that it is skipped
  pub far : Spot → Spot → Boxed → Bool
  -- (2): a corner lies strictly inside
  pub inside : Spot → Spot → Spot → Bool
  -- what the pair of two places carries as its size
  pub size : Spot → Spot → ℕ
  -- how far from 0 the coordinates of its sheets may be, and the most that a size may then be: 15 is "given when a size lies outside"
  pub reach : ℕ
  pub most : ℕ
  -- whether the half-plane filter is used for it
  pub half : Bool

-- ---- the circle: document 01's rules, with its filter; the squared diameter, which is never negative, as a number [Z1]. "Refusal 15's size limit becomes
-- 8,000,000,000,000,000,000 for every page"

-- [Z3, Y5]
abbrev pub circle : Profile
circle =
    record {
      blocks = rule.blocks;
      far = rule.far;
      inside = rule.inside;
      size = λ a b. nat_abs (rule.size a b);
      reach = 1_000_000_000;
      most = 8_000_000_000_000_000_000;
      half = true;
    }

-- ---- a measure: how the distances on the two axes make one

-- [A11]
pub record Measure : Type 0 where
  pub joined : ℕ → ℕ → ℕ

module _ (m : Measure) where
  -- how far a and b are apart; how far 2z is from a + b; how far the box with doubled coordinates is from a + b [A1]
  abbrev pub across : Spot → Spot → ℕ
  across a b = m.joined (nat_abs (a.x -ℤ b.x)) (nat_abs (a.y -ℤ b.y))

  -- [A1]
  abbrev pub centre : Spot → Spot → Spot → ℕ
  centre a b z = m.joined (nat_abs (pos 2 *ℤ z.x -ℤ (a.x +ℤ b.x))) (nat_abs (pos 2 *ℤ z.y -ℤ (a.y +ℤ b.y)))

  -- [A3]
  abbrev pub away : Spot → Spot → Boxed → ℕ
  away a b o =
      m.joined (nat_abs (out (pos 2 *ℤ o.xmin) (pos 2 *ℤ o.xmax) (a.x +ℤ b.x))) (nat_abs (out (pos 2 *ℤ o.ymin) (pos 2 *ℤ o.ymax) (a.y +ℤ b.y)))

  -- "x blocks a, b when the sum of the absolute differences of 2x and a+b, over both coordinates, is at most the sum of the absolute differences of a and b; a record
  -- at an end's place doesn't block" [A1, A2]
  unfoldable pub blocks_by : Spot → Spot → Spot → Bool
  blocks_by a b z = leb (centre a b z) (across a b) && not (same_spot z a) && not (same_spot z b)

  -- "The box rules carry over with this distance": (1), over the distance of a and b [A3]
  unfoldable pub far_by : Spot → Spot → Boxed → Bool
  far_by a b o = ltb (across a b) (away a b o)

  -- "strictly inside for sides" [A4]
  unfoldable pub inside_by : Spot → Spot → Spot → Bool
  inside_by a b c = ltb (centre a b c) (across a b)

-- ---- the street grid: "the sum of the absolute differences [..], over both coordinates"

-- [A1]
abbrev pub streets : Measure
streets = record { joined = λ u v. u + v }

-- "The half-plane filter doesn't [carry over]"; "the size is the squared sum of absolute differences"; "For this profile the size limit is 16,000,000,000,000, form 1 sheets
-- only", whose coordinates are to 1,000,000 [A1, A3, A9, A12, A15]
abbrev pub grid : Profile
grid =
    record {
      blocks = blocks_by streets;
      far = far_by streets;
      inside = inside_by streets;
      size = λ a b. across streets a b * across streets a b;
      reach = 1_000_000;
      most = 16_000_000_000_000;
      half = false;
    }

-- the profile of a page or a book, as it carries it: the second where this is true [A11]
abbrev pub profile_of : Bool → Profile
profile_of false = circle
profile_of true = grid

-- 15 is "also given when a size lies outside 0 to" its profile's limit [Z3, Y5, A12]
unfoldable pub size_ok : Bool → ℕ → Bool
size_ok g k = leb k (profile_of g).most

-- ---- rule (2) of either

module _ (f : Profile) where
  -- both corners of side s lie strictly inside [W14, A4]
  abbrev pub corners_in : Spot → Spot → Boxed → ℕ → Bool
  corners_in a b o zero = f.inside a b (spot o.xmin o.ymin) && f.inside a b (spot o.xmin o.ymax)
  corners_in a b o (suc zero) = f.inside a b (spot o.xmin o.ymin) && f.inside a b (spot o.xmax o.ymin)
  corners_in a b o (suc (suc zero)) = f.inside a b (spot o.xmax o.ymin) && f.inside a b (spot o.xmax o.ymax)
  corners_in a b o (suc (suc (suc s))) = f.inside a b (spot o.xmin o.ymax) && f.inside a b (spot o.xmax o.ymax)

  -- (2) "If both corners of some side lie strictly inside": "the first that qualifies of left, bottom, right, top", and 4 where there is none [W14, E1, A4, A5, V7]
  unfoldable pub side_in : Spot → Spot → Boxed → ℕ
  side_in a b o =
      cond (corners_in a b o 0) 0 (cond (corners_in a b o 1) 1 (cond (corners_in a b o 2) 2 (cond (corners_in a b o 3) 3 4)))

  -- what is said of a side that is named so: both its corners lie strictly inside, and those of no side before it do [E1, A5]
  pub record FirstSide (a b : Spot) (o : Boxed) (s : ℕ) : Type 0 where
    pub one_of_four : s < 4
    pub qualifies : corners_in a b o s ≡ true
    pub none_before : (t : ℕ) → t < s → corners_in a b o t ≡ false
