-- What the theorems on the walk that goes nearest first speak of.
use Rattle.std.specs.Prelude.{◌≡◌, cond, ◌⊎◌, List, [], ◌∷◌, ℕ, ◌+◌, ◌<◌, ◌≤◌, eqb, ℤ}
use Rattle.words.specs.Word.{num}
use Rattle.plane.specs.declared.Spot.{Spot}
use Rattle.plane.specs.Rule.{size}
use Rattle.sheet.specs.Places.{spot_of}

-- the squared distance to q of the point at position i
unfoldable pub distance_to : List ℤ → Spot → ℕ → ℕ
distance_to w q i = num (size q (spot_of w i))

-- position i is not after position j in the order of the points: it is nearer to q, or on a tie not higher
abbrev pub NotAfter : List ℤ → Spot → ℕ → ℕ → Type 0
NotAfter w q i j = (distance_to w q i < distance_to w q j) ⊎ ((distance_to w q i ≡ distance_to w q j) × (i ≤ j))

-- how often i stands in a list
unfoldable pub times : ℕ → List ℕ → ℕ
times i [] = 0
times i (x ∷ l) = cond (eqb x i) 1 0 + times i l
