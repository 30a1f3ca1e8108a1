-- The list to a size: the pairs of the list of any terms that are no longer than asked for.
use Rattle.std.specs.Prelude.{Bool, ◌&&◌, List, ℕ, leb, length}
use Rattle.plane.specs.Point.{Point, spot_at}
use Rattle.list.specs.declared.Pair.{Pair}
use Rattle.list.specs.declared.Terms.{Terms}
use Rattle.list.specs.Rows.{at_least, list_by}
use Rattle.list.specs.Contractor.{mine}
use Rattle.list.specs.RingList.{pair_by}
use Rattle.list.specs.Terms.{profile_for, pair_for}

-- the rule of the terms, of pairs whose size is at most `big` [MP1]
unfoldable pub small_for : ℕ → Terms → List Point → List Point → ℕ → ℕ → Bool
small_for big a P Q j i = pair_for a P Q j i && leb ((profile_for a).size (spot_at Q j) (spot_at P i)) big

-- of those the pairs of the contractor's chambers, of the chambers that have at least t such pairs, whatever the key: o has the owner bytes [MP1, MP2]
unfoldable pub listed_to : ℕ → Terms → List ℕ → List Point → List Point → ℕ → ℕ → Bool
listed_to big a o P Q j i = mine a.contractor o j && at_least (small_for big a P Q) (pair_by (profile_for a) P Q) a.threshold (length P) j i

-- "of the list of these terms [..] those pairs [..] whose size is at most `largest`" [MP1]
unfoldable pub list_to : ℕ → Terms → List ℕ → List Point → List Point → List Pair
list_to big a o P Q = list_by (listed_to big a o P Q) (pair_by (profile_for a) P Q) (length P) (length Q)
