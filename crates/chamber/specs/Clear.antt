-- What a walk tells of the records at the places of C: where it says yes none of them blocks the pair of a and b, where it says no a record of the sheet does. What the code goes by.
use Rattle.std.specs.Prelude.{◌≡◌, Bool, true, false, List, ℕ, ◌<◌, ℤ}
use Rattle.plane.specs.declared.Spot.{Spot}
use Rattle.plane.specs.Profile.{Profile}
use Rattle.sheet.specs.Order.{order_of}
use Rattle.sheet.specs.Places.{spot_of}

pub record Clears (φ : Profile) (w : List ℤ) (n : ℕ) (a b : Spot) (C : ℕ → Type 0) : Type 0 where
  pub at : (k : ℕ) → C k → φ.blocks a b (spot_of w (order_of w n k)) ≡ false

pub record Tells (φ : Profile) (w : List ℤ) (n : ℕ) (a b : Spot) (C : ℕ → Type 0) (r : Bool) : Type 0 where
  pub clear : r ≡ true → Clears φ w n a b C
  pub met : r ≡ false → (i : ℕ) × (i < n) × (φ.blocks a b (spot_of w i) ≡ true)
