-- The list that pages and books are of, for any terms: one definition, of points alone.
use Rattle.std.specs.Prelude.{Bool, true, false, not, ◌&&◌, ◌||◌, List, ℕ, ltb, length}
use Rattle.plane.specs.Point.{Point, id_at}
use Rattle.list.specs.declared.Key.{Key}
use Rattle.list.specs.declared.Pair.{Pair}
use Rattle.list.specs.declared.Request.{Request}
use Rattle.list.specs.declared.Terms.{Terms}
use Rattle.list.specs.Rows.{at_least, list_by}
use Rattle.list.specs.Contractor.{mine}
use Rattle.plane.specs.Profile.{Profile, profile_of}
use Rattle.list.specs.RingList.{ring_pair_by, pair_by}

-- the terms of either profile's undivided list of t of two sheets, "0 for the full list", and of its self join, "with [..] t 0": "self joins stay undivided" [A8]
abbrev pub with_by : Bool → ℕ → Terms
with_by g t = record { threshold = t; contractor = 2; own = false; grid = g }

-- [A8, U10]
abbrev pub alone_by : Bool → Terms
alone_by g = record { threshold = 0; contractor = 2; own = true; grid = g }

-- those of the circle [T5]
abbrev pub with_t : ℕ → Terms
with_t = with_by false

-- [T5]
abbrev pub full : Terms
full = with_t 0

-- [J1, J2, J5]
abbrev pub alone : Terms
alone = alone_by false

-- terms of either kind, and of a contractor, "or 2 for an undivided list", the rest as it is; and the page request of terms of two sheets
abbrev pub of_kind : Bool → Terms → Terms
of_kind k a = record { threshold = a.threshold; contractor = a.contractor; own = k; grid = a.grid }

-- [U2, U3, U9]
abbrev pub of_contractor : ℕ → Terms → Terms
of_contractor c a = record { threshold = a.threshold; contractor = c; own = a.own; grid = a.grid }

-- [U9]
abbrev pub request_of : Terms → Key → ℕ → Request
request_of a key size = record { key = key; size = size; threshold = a.threshold; contractor = a.contractor; grid = a.grid }

-- the profile of the terms [A10]
abbrev pub profile_for : Terms → Profile
profile_for a = profile_of a.grid

-- The rule of the terms, t and contractor apart: the ring rule of their profile. A self join is of one set in both places: "pairs of two different records of one sheet, lower id first", in which q is
-- the lower id, p the higher; "blocked by the other records of that sheet". [J1, J3]
unfoldable pub pair_for : Terms → List Point → List Point → ℕ → ℕ → Bool
pair_for a P Q j i = (not a.own || ltb (id_at Q j) (id_at P i)) && ring_pair_by (profile_for a) P Q j i

-- "list all such chambers by id with all their pairs": those of the rule, of the chambers that have at least t of them; "A contractor's list is the ring pairs of its own chambers;
-- all points still block for both": o has the owner bytes [T3, U2]
unfoldable pub listed_for : Terms → List ℕ → List Point → List Point → ℕ → ℕ → Bool
listed_for a o P Q j i = mine a.contractor o j && at_least (pair_for a P Q) (pair_by (profile_for a) P Q) a.threshold (length P) j i

-- "The list runs by q id, then p id" [P12, T3, J2, J6, A10, U2, U3, U11, D3]
unfoldable pub list_for : Terms → List ℕ → List Point → List Point → List Pair
list_for a o P Q = list_by (listed_for a o P Q) (pair_by (profile_for a) P Q) (length P) (length Q)
