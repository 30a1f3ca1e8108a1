-- The places of droppers, in a list. What the code goes by.
use Rattle.std.specs.Prelude.{List, ℕ, pos, get_or}
use Rattle.plane.specs.declared.Spot.{Spot}
use Rattle.plane.specs.Rule.{spot}

-- the place of dropper k
abbrev pub place_at : List Spot → ℕ → Spot
place_at at k = get_or at k (spot (pos 0) (pos 0))
