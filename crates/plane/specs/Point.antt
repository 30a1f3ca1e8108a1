-- A record of a set, pump house or chamber: its id and where it stands. A set is a list of these, and a record's position is its number from 0 there.
use Rattle.std.specs.Prelude.{List, ℕ, pos, get_or}
use Rattle.plane.specs.declared.Spot.{Spot}
use Rattle.plane.specs.Rule.{spot}

pub record Point : Type 0 where
  pub id : ℕ
  pub spot : Spot

-- the record at a position, the id at a position, and where it stands; past the end, id 0 at (0, 0)
abbrev pub point_at : List Point → ℕ → Point
point_at s i = get_or s i (record { id = 0; spot = Rattle.plane.specs.Rule.spot (pos 0) (pos 0) })

abbrev pub id_at : List Point → ℕ → ℕ
id_at s i = (point_at s i).id

abbrev pub spot_at : List Point → ℕ → Spot
spot_at s i = (point_at s i).spot
