-- What the list to a size is.
--     size_bound    of points in reach of a profile no pair is larger than the greatest size that is taken
--     list_whole    so the list to that size is the list of the terms
-- Assumes nothing.
use mathlib.Core.Path.{◌≡◌, ap, ◌∙◌}
use mathlib.Core.Bool.{Bool, true, false, ◌&&◌}
use mathlib.Core.List.{List}
use Prim.Native.Nat.{ℕ, ◌≤◌, ◌<◌}
use native.Mathlib.Omega.{arith}
use lib.Dec.{leb}
use lib.ListN.{length}
use Rattle.plane.specs.Point.{Point, spot_at}
use Rattle.plane.specs.Profile.{profile_of}
use Rattle.plane.proofs.ProfileLaws.{profile_lawful}
use Rattle.list.specs.declared.Pair.{Pair}
use Rattle.list.specs.declared.Terms.{Terms}
use Rattle.list.specs.Contractor.{mine}
use Rattle.list.specs.Rows.{row, at_least}
use Rattle.list.specs.RingList.{pair_by, Reached}
use Rattle.list.specs.Terms.{profile_for, pair_for, listed_for, list_for}
use Rattle.list.proofs.RowLaws.{row_same, list_same}
use Rattle.chamber.specs.Sized.{small_for, listed_to, list_to}
use Rattle.chamber.proofs.WholeLaws.{small_all}
use Rattle.many.specs.Many.{last_largest}

module _ (a : Terms) (o : List ℕ) (P Q : List Point) (rp : Reached (profile_for a) P) (rq : Reached (profile_for a) Q) where
  most_taken : (g : Bool) → (profile_of g).most ≤ last_largest
  most_taken false = omega arith
  most_taken true = omega arith

  pub size_bound : (j i : ℕ) → j < length Q → i < length P → (profile_for a).size (spot_at Q j) (spot_at P i) ≤ last_largest
  size_bound j i hj hi = omega (arith, (profile_lawful a.grid).size_most (spot_at Q j) (spot_at P i) (rq.in_reach j hj) (rp.in_reach i hi), most_taken a.grid)

  all_small : (j i : ℕ) → j < length Q → i < length P → small_for last_largest a P Q j i ≡ pair_for a P Q j i
  all_small = small_all last_largest a P Q size_bound

  listed_all : (j i : ℕ) → j < length Q → i < length P → listed_to last_largest a o P Q j i ≡ listed_for a o P Q j i
  unfolding listed_to listed_for at_least
  listed_all j i hj hi =
      ap (λ (t : Bool). mine a.contractor o j && (t && leb a.threshold (length (row (small_for last_largest a P Q) (pair_by (profile_for a) P Q) j (length P) 0)))) (all_small j i hj hi)
      ∙ ap (λ (l : List Pair). mine a.contractor o j && (pair_for a P Q j i && leb a.threshold (length l)))
      (row_same (small_for last_largest a P Q) (pair_for a P Q) (pair_by (profile_for a) P Q) j (length P) 0 (λ x l h. all_small j x hj (omega arith)))

  -- the list to the greatest size is the list of the terms
  pub list_whole : list_to last_largest a o P Q ≡ list_for a o P Q
  unfolding list_to list_for
  list_whole = list_same (listed_to last_largest a o P Q) (listed_for a o P Q) (pair_by (profile_for a) P Q) (length P) (length Q) (λ j i hj hi. listed_all j i hj hi)
