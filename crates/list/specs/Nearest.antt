-- The couples at the least distance, of which request 6 speaks.
use Rattle.std.specs.Prelude.{ℕ, ◌<◌, length, ◌≤ℤ◌, List}
use Rattle.plane.specs.Rule.{size}
use Rattle.plane.specs.Point.{Point, spot_at}

-- the chamber at position j and the pump house at position i are "at the least distance of all such couples" [R6]
pub record Nearest (P Q : List Point) (j i : ℕ) : Type 0 where
  pub q_in : j < length Q
  pub p_in : i < length P
  pub least : (k h : ℕ) → k < length Q → h < length P → size (spot_at Q j) (spot_at P i) ≤ℤ size (spot_at Q k) (spot_at P h)
