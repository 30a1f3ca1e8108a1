-- The two calls that every caller wrote by hand: how many words a sheet of n points has, and where the record with an id stands.
--
--     length_tells    up to 60,000 points it is the length that `pack` asks for, by 17.  length_none: beyond, 0
--     place_no_lem        the number of the position's answer is the defined one, and an answer with another number than 0 is that number and 0
--     place_tells     where it is served, the record at the position has the id.  place_known: the id of a record of a sheet is served
-- Assumes nothing.
use mathlib.Core.Path.{◌≡◌, refl, sym, ap, ◌∙◌}
use mathlib.Core.List.{List}
use Prim.Native.Nat.{ℕ, ◌≤◌, ◌<◌}
use lib.IntN.{ℤ}
use lib.ListN.{length}
use Rattle.plane.specs.Point.{id_at}
use Rattle.sheet.specs.Places.{points_of}
use Rattle.sheet.specs.Open.{sheet_no}
use Rattle.pack.specs.Packed.{sheet_size}
use Rattle.pack.proofs.PackLaws.{length_past, length_within}
use Rattle.ring.specs.Position.{place_no, place_refused}
use Rattle.ring.specs.declared.Placed.{Placed}
use Rattle.ring.proofs.PositionLaws.{ring_place_no, place_refused_lem, place_holds, place_served}
use Rattle.demands.specs.Promises.{LengthAnswers, PlaceAnswers}

-- [S29]
pub length_tells : (n r : ℕ) → LengthAnswers n r → n ≤ 60000 → r ≡ sheet_size n
length_tells n r a h = a.promised ∙ sym (length_within n (sheet_size n) h refl)

-- [S29]
pub length_none : (n r : ℕ) → LengthAnswers n r → 60000 < n → r ≡ 0
length_none n r a h = a.promised ∙ sym (length_past n h)

module _ (w : List ℤ) (id : ℕ) (r : Placed) (a : PlaceAnswers w id r) where
  number_is : r.number ≡ place_no w id
  number_is = ap (λ (x : Placed). x.number) a.promised ∙ ring_place_no w id

  -- [S30]
  pub place_no_lem : (r.number ≡ place_no w id) × ((place_no w id ≡ 0 → ⊥) → r ≡ place_refused (place_no w id))
  unfolding place_refused
  place_no_lem = (number_is, λ ne. a.promised ∙ sym (place_refused_lem w id (place_no w id) refl ne))

  -- [S30]
  pub place_tells : r.number ≡ 0 → id_at (points_of w) r.position ≡ id
  place_tells z = ap (λ (x : Placed). id_at (points_of w) x.position) a.promised ∙ place_holds w id (sym (ap (λ (x : Placed). x.number) a.promised) ∙ z)

  -- [S30]
  pub place_known : sheet_no w ≡ 0 → (j : ℕ) → j < length (points_of w) → id_at (points_of w) j ≡ id → r.number ≡ 0
  place_known opens j h e = ap (λ (x : Placed). x.number) a.promised ∙ place_served w id opens j h e
