-- The positions of the latest kept points, in a list that is lent to the filter walk's code: it says in which order kept points are tried, and changes no answer.
use Rattle.std.specs.Prelude.{◌≡◌, Bool, true, List, ℕ, ◌≤◌, ◌<◌, length, get_or}
use Rattle.plane.specs.declared.Spot.{Spot}
use Rattle.plane.specs.declared.Boxed.{Boxed}
use Rattle.plane.specs.Rule.{SpotIn, drops_box}
use Rattle.bits.specs.Set.{kept, Known}

-- the first c numbers of the list are kept ones of the first n positions, and each kept one is among them
pub record Lists (ws : List ℕ) (n : ℕ) (latest : List ℕ) (c : ℕ) : Type 0 where
  pub below : (k : ℕ) → k < c → get_or latest k 0 < n
  pub is_kept : (k : ℕ) → k < c → kept ws (get_or latest k 0) ≡ true
  pub each : (i : ℕ) → i < n → kept ws i ≡ true → (k : ℕ) × (k < c) × (get_or latest k 0 ≡ i)

-- where the position to try first is one of the first n, it is a kept one; and the list has them all, unless c is more than it has room for: its length is its room
pub record Tries (ws : List ℕ) (n : ℕ) (latest : List ℕ) (last c : ℕ) : Type 0 where
  pub known : Known ws n last
  pub listed : c ≤ length latest → Lists ws n latest c

-- a test that may be asked of each place in range, and says whether the place drops the box o, for q
pub record TestsBox (pre : Spot → Type 0) (post : Spot → Bool → Type 0) (q : Spot) (o : Boxed) : Type 0 where
  pub may : (z : Spot) → SpotIn z → pre z
  pub says : (z : Spot) (t : Bool) → SpotIn z → post z t → t ≡ drops_box q z o
