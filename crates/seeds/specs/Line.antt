-- The droppers in hand: at most 24 places. What the code goes by; of the candidates nothing is promised with it but what Covers says.
use Rattle.std.specs.Prelude.{◌≡◌, true, ◌⊎◌, ℕ, ◌<◌}
use Rattle.plane.specs.declared.Spot.{Spot}
use Rattle.plane.specs.Rule.{drops}
use Rattle.seeds.specs.declared.line.Line.{Line}
use Rattle.seeds.specs.Places.{place_at}

-- K holds of the place of each dropper
pub record Lined (K : Spot → Type 0) (l : Line) : Type 0 where
  pub each : (k : ℕ) → k < l.count → K (place_at l.at k)

-- one of the droppers stands at z
pub record Among (l : Line) (z : Spot) : Type 0 where
  pub by : ℕ
  pub below : by < l.count
  pub at : z ≡ place_at l.at by

-- or z is new
abbrev pub Known : (Spot → Type 0) → Line → Spot → Type 0
Known New l z = Among l z ⊎ New z

abbrev pub At : Spot → Spot → Type 0
At y z = z ≡ y

-- where r is the number of a dropper, K holds of its place
pub record Drops (K : Spot → Type 0) (l : Line) (r : ℕ) : Type 0 where
  pub holds : r < l.count → K (place_at l.at r)

-- a place of K drops z, for q
abbrev pub DroppedBy : (Spot → Type 0) → Spot → Spot → Type 0
DroppedBy K q z = (y : Spot) × K y × (drops q y z ≡ true)
