-- What is promised of the candidates for a chamber: its ring partners are among them. And what the walks bring about, whatever the droppers.
use Rattle.std.specs.Prelude.{◌≡◌, Bool, true, ◌⊎◌, List, ℕ, ◌<◌, ℤ}
use Rattle.plane.specs.declared.Spot.{Spot}
use Rattle.plane.specs.Profile.{profile_of}
use Rattle.sheet.specs.Layout.{points}
use Rattle.sheet.specs.Order.{order_of}
use Rattle.sheet.specs.Places.{spot_of, points_of}
use Rattle.bits.specs.Set.{kept}
use Rattle.list.specs.RingList.{ring_pair_by}
use Rattle.seeds.specs.Line.{DroppedBy}

-- each ring partner of the chamber at position j is kept, by a profile
pub record Covers (g : Bool) (P Q : List ℤ) (j : ℕ) (b : List ℕ) : Type 0 where
  pub partner : (i : ℕ) → i < points P → ring_pair_by (profile_of g) (points_of P) (points_of Q) j i ≡ true → kept b i ≡ true

-- ---- what the code goes by

-- one of the n records of the sheet stands at z; one of either sheet does
abbrev pub On : List ℤ → ℕ → Spot → Type 0
On w n z = (i : ℕ) × (i < n) × (z ≡ spot_of w i)

abbrev pub OnEither : List ℤ → ℕ → List ℤ → ℕ → Spot → Type 0
OnEither P np Q nq z = On P np z ⊎ On Q nq z

-- position i is dealt with: it is kept, or a place of K drops it
abbrev pub Settled : (Spot → Type 0) → List ℤ → Spot → List ℕ → ℕ → Type 0
Settled K w q b i = (kept b i ≡ true) ⊎ DroppedBy K q (spot_of w i)

-- from b to b': what was kept still is, and the position at each place of C is dealt with
pub record Deals (K : Spot → Type 0) (w : List ℤ) (n : ℕ) (q : Spot) (C : ℕ → Type 0) (b b' : List ℕ) : Type 0 where
  pub stays : (i : ℕ) → kept b i ≡ true → kept b' i ≡ true
  pub done : (r : ℕ) → C r → Settled K w q b' (order_of w n r)

-- what was kept still is, or a place of K drops it
pub record Retries (K : Spot → Type 0) (w : List ℤ) (q : Spot) (b b' : List ℕ) : Type 0 where
  pub settled : (i : ℕ) → kept b i ≡ true → Settled K w q b' i
