-- The filter walk of a self join: for the point at position j, over the points of its own sheet. "The filter passes over q": position j is met and passed, never kept.
use Rattle.std.specs.Prelude.{Bool, cond, not, ◌&&◌, List, ℕ, eqb, ltb, ℤ}
use Rattle.plane.specs.Profile.{Profile}
use Rattle.sheet.specs.Layout.{points, nodes}
use Rattle.sheet.specs.Order.{order_of}
use Rattle.sheet.specs.Places.{spot_of}
use Rattle.bits.specs.Set.{kept, none}
use Rattle.walk.specs.Walk.{walk_all}
use Rattle.walk.specs.FilterWalk.{Kept, so_far, filter_take, filter_visit}

-- the position that stands at place r: as in any filter walk, but for j itself
unfoldable pub pass_take : List ℤ → ℕ → ℕ → ℕ → Kept → Kept
pass_take w n j r k = cond (eqb (order_of w n r) j) k (filter_take w n (spot_of w j) r k)

-- the walk of the whole sheet, its kept set on so many words: the kept set and the nodes opened [J8]
unfoldable pub pass_kept : ℕ → List ℤ → ℕ → Kept
pass_kept words w j = walk_all w (points w) (nodes w) (filter_visit w (points w) (spot_of w j)) (pass_take w (points w) j) (so_far (none words) 0)

-- position i is kept by the walk for position j
abbrev pub pass_keeps : ℕ → List ℤ → ℕ → ℕ → Bool
pass_keeps words w j i = kept (pass_kept words w j).bits i

-- of any profile: where the half-plane filter is not used all are kept, but for j [A6]
unfoldable pub pass_keeps_by : Profile → ℕ → List ℤ → ℕ → ℕ → Bool
pass_keeps_by f words w j i = cond f.half (pass_keeps words w j i) (ltb i (points w) && not (eqb i j))

-- [A7]
unfoldable pub pass_opened : Profile → ℕ → List ℤ → ℕ → ℕ
pass_opened f words w j = cond f.half (pass_kept words w j).opened 0
