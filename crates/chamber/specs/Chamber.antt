-- A chamber's pairs, as the code keeps them. No promise of an open call cites this.
use Rattle.std.specs.Prelude.{◌≡◌, Bool, true, ◌&&◌, List, ℕ, ◌<◌, ℤ, length}
use Rattle.plane.specs.declared.Spot.{Spot}
use Rattle.plane.specs.Rule.{SpotIn}
use Rattle.sheet.specs.Places.{points_of}
use Rattle.bits.specs.Set.{kept}
use Rattle.list.specs.declared.Pair.{Pair}
use Rattle.list.specs.declared.Terms.{Terms}
use Rattle.list.specs.Rows.{row}
use Rattle.list.specs.RingList.{unblocked}
use Rattle.list.specs.Terms.{profile_for}

-- no record of either sheet blocks the pair of the places a and b
unfoldable pub free_of : Terms → List ℤ → List ℤ → Spot → Spot → Bool
free_of t P Q a b = unblocked (profile_for t) (points_of Q) a b && unblocked (profile_for t) (points_of P) a b

-- what was found last of the pairs of a is right, where there is something
pub record Right (t : Terms) (P Q : List ℤ) (a : Spot) (known : Bool) (at : Spot) (clear : Bool) : Type 0 where
  pub near : SpotIn at
  pub is : known ≡ true → clear ≡ free_of t P Q a at

-- of the first n positions exactly those are kept that the rule holds of, and they are so many
pub record PairsOn (rule : ℕ → ℕ → Bool) (pair : ℕ → ℕ → Pair) (j n : ℕ) (b : List ℕ) (count : ℕ) : Type 0 where
  pub held : (i : ℕ) → i < n → kept b i ≡ rule j i
  pub counted : count ≡ length (row rule pair j n 0)

-- the pairs of the chamber at j that are listed are so many, and where there are any, of the first n positions exactly those are kept
pub record ListedOn (rule : ℕ → ℕ → Bool) (pair : ℕ → ℕ → Pair) (j n : ℕ) (b : List ℕ) (count : ℕ) : Type 0 where
  pub counted : count ≡ length (row rule pair j n 0)
  pub held : (count ≡ 0 → ⊥) → (i : ℕ) → i < n → kept b i ≡ rule j i
