-- The scores of chambers in two runs that differ in what the other contractor's chambers are called.
use Rattle.std.specs.Prelude.{◌≡◌, List, ℕ, ◌<◌, leb, length, get_or}
use Rattle.plane.specs.Point.{Point}
use Rattle.list.specs.Contractor.{Renamed}
use Rattle.ranked.specs.Urgent.{last_score}

-- They are as many in both, each chamber's is in range in both or in neither, and contractor c's own chambers have the same. Scores that go with their chambers are such; and those of the other's may
-- differ besides. [BU12]
pub record Rescored (c : ℕ) (Q : List Point) (o : List ℕ) (Q' : List Point) (o' : List ℕ) (r : Renamed c Q o Q' o') (s s' : List ℕ) : Type 0 where
  pub as_many : length s ≡ length s'
  pub in_range : (j : ℕ) → j < length Q → leb (get_or s' (r.to j) 0) last_score ≡ leb (get_or s j 0) last_score
  pub own_score : (j : ℕ) → j < length Q → get_or o j 2 ≡ c → get_or s' (r.to j) 0 ≡ get_or s j 0
