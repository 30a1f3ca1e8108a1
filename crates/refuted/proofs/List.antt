-- Wrong readings of the list of ring pairs, of its pages and of what tells one list from another.
use mathlib.Core.Path.{◌≡◌, refl, sym, ap, ◌∙◌}
use mathlib.Core.Bool.{Bool, true, false, cond, not, ◌&&◌, ◌||◌, true≢false}
use mathlib.Core.List.{List, [], ◌∷◌}
use Prim.Native.Nat.{ℕ, suc}
use lib.Dec.{eqb, leb, ltb}
use lib.IntN.{nat_abs}
use lib.ListN.{length, take, get_or}
use Rattle.words.specs.All.{all_b}
use Rattle.words.specs.First.{given, first}
use Rattle.plane.specs.declared.Spot.{Spot}
use Rattle.plane.specs.Rule.{same_spot, blocks, size}
use Rattle.plane.specs.Profile.{circle}
use Rattle.plane.specs.Point.{Point, id_at, spot_at}
use Rattle.list.specs.declared.Key.{Key}
use Rattle.list.specs.declared.Pair.{Pair}
use Rattle.list.specs.declared.Source.{Source}
use Rattle.list.specs.Pairs.{start, none, key_of, follows, after, last_or, is_none}
use Rattle.list.specs.Pages.{threshold_no, size_no, source_no, padded, shown, page_of}
use Rattle.list.specs.Rows.{row, rows, at_least, list_by}
use Rattle.list.specs.RingList.{unblocked, ring_pair_by, ring_pair, size_of, pair_at, ring_list_by, ring_list}
use Rattle.list.specs.Terms.{full, with_t, alone, pair_for, listed_for, list_for}
use Rattle.refuted.proofs.Cases.{at, to, key, pumps, chambers}

-- ---- the list

-- "an unchanging list": whatever it holds, it is not the list of all points. [R3, D2, V2]
pub unchanging_wrong : (l : List Pair) → ((P Q : List Point) → ring_list P Q ≡ l) → ⊥
unfolding ring_list_by list_by rows row ring_pair_by unblocked all_b same_spot blocks is_none
unchanging_wrong l same = true≢false (ap is_none (same [] [] ∙ sym (same pumps chambers)))

-- Chambers alone block, or pump houses alone. "when no other record of P or Q blocks it". [R3]
abbrev chambers_block : List Point → List Point → ℕ → ℕ → Bool
chambers_block P Q j i = unblocked circle Q (spot_at Q j) (spot_at P i)

pub chambers_alone_wrong : (chambers_block (at 1 4 0 ∷ at 2 2 0 ∷ []) (at 5 0 0 ∷ []) 0 0 ≡ true) × (ring_pair (at 1 4 0 ∷ at 2 2 0 ∷ []) (at 5 0 0 ∷ []) 0 0 ≡ false)
unfolding ring_pair_by unblocked all_b same_spot blocks
chambers_alone_wrong = (refl, refl)

abbrev pumps_block : List Point → List Point → ℕ → ℕ → Bool
pumps_block P Q j i = unblocked circle P (spot_at Q j) (spot_at P i)

-- [R3]
pub pumps_alone_wrong : (pumps_block (at 1 4 0 ∷ []) (at 5 0 0 ∷ at 6 2 0 ∷ []) 0 0 ≡ true) × (ring_pair (at 1 4 0 ∷ []) (at 5 0 0 ∷ at 6 2 0 ∷ []) 0 0 ≡ false)
unfolding ring_pair_by unblocked all_b same_spot blocks
pumps_alone_wrong = (refl, refl)

-- By p id, then q id. "The list runs by q id, then p id." [R4]
abbrev by_pump : List Point → List Point → List Pair
by_pump P Q = list_by (λ i j. ring_pair P Q j i) (λ i j. pair_at P Q j i) (length Q) (length P)

pub by_pump_wrong :
    (by_pump (at 1 10 0 ∷ at 2 0 0 ∷ []) (at 5 1 0 ∷ at 6 9 0 ∷ []) ≡ to 6 1 1 ∷ to 5 2 1 ∷ [])
    × (ring_list (at 1 10 0 ∷ at 2 0 0 ∷ []) (at 5 1 0 ∷ at 6 9 0 ∷ []) ≡ to 5 2 1 ∷ to 6 1 1 ∷ [])
unfolding ring_list_by list_by rows row ring_pair_by unblocked all_b same_spot blocks
by_pump_wrong = (refl, refl)

-- The size of a pair from one of its ends. "Each pair [..] now has its squared diameter beside the ids." [Z1]
abbrev size_of_end : Spot → Spot → ℕ
size_of_end a b = nat_abs (size a a)

pub size_of_one_end_wrong : (size_of_end (spot_at chambers 0) (spot_at pumps 0) ≡ 0) × (size_of (spot_at chambers 0) (spot_at pumps 0) ≡ 16)
size_of_one_end_wrong = (refl, refl)

-- Every chamber has a pair with the pump house nearest to it. Request 6 speaks of the least distance "of all such couples": here chamber 5's one pump house is
-- blocked by chamber 6. [R6]
pub own_nearest_wrong : ring_pair (at 1 4 0 ∷ []) (at 5 0 0 ∷ at 6 2 0 ∷ []) 0 0 ≡ true → ⊥
unfolding ring_pair_by unblocked all_b same_spot blocks
own_nearest_wrong e = true≢false (sym e)

-- ---- a chamber's partners

-- More than t partners. "Which chambers have at least t partners." [T3]
abbrev more_than : ℕ → List Point → List Point → List Pair
more_than t P Q = list_by (at_least (ring_pair P Q) (pair_at P Q) (suc t) (length P)) (pair_at P Q) (length P) (length Q)

pub more_than_t_wrong : (more_than 2 pumps chambers ≡ []) × (list_for (with_t 2) [] pumps chambers ≡ to 5 1 16 ∷ to 5 2 36 ∷ [])
unfolding list_by rows row at_least pair_for listed_for list_for ring_pair_by unblocked all_b same_spot blocks
more_than_t_wrong = (refl, refl)

-- The first t pairs of such a chamber. "with all their pairs". [T3]
abbrev first_ones : ℕ → List Point → List Point → List Pair
first_ones t P Q = take t (list_for (with_t t) [] P Q)

pub first_t_wrong : (first_ones 1 pumps chambers ≡ to 5 1 16 ∷ []) × (list_for (with_t 1) [] pumps chambers ≡ to 5 1 16 ∷ to 5 2 36 ∷ to 6 2 37 ∷ [])
unfolding list_by rows row at_least pair_for listed_for list_for ring_pair_by unblocked all_b same_spot blocks
first_t_wrong = (refl, refl)

-- t below 1,000. "Request 5's threshold goes to 60,000." [T9, Y13]
abbrev below_thousand : ℕ → ℕ
below_thousand t = given (not (ltb t 1000)) 21

pub below_thousand_wrong : (below_thousand 60000 ≡ 21) × (threshold_no 60000 ≡ 0)
unfolding threshold_no given
below_thousand_wrong = (refl, refl)

-- ---- the self join

-- The list of one sheet in both places. "One sheet used as both P and Q doesn't give a self join": each record is listed with itself, and two both ways. [B4, J1]
pub both_ways_wrong :
    (ring_list pumps pumps ≡ to 1 1 0 ∷ to 1 2 100 ∷ to 2 1 100 ∷ to 2 2 0 ∷ []) × (list_for alone [] pumps pumps ≡ to 1 2 100 ∷ [])
unfolding ring_list_by list_by rows row at_least pair_for listed_for list_for ring_pair_by unblocked all_b same_spot blocks
both_ways_wrong = (refl, refl)

-- The higher id first. "lower id first". [J1]
abbrev high_first : List Point → List Pair
high_first S = list_by (λ j i. ltb (id_at S i) (id_at S j) && ring_pair S S j i) (pair_at S S) (length S) (length S)

pub high_first_wrong : (high_first pumps ≡ to 2 1 100 ∷ []) × (list_for alone [] pumps pumps ≡ to 1 2 100 ∷ [])
unfolding list_by rows row at_least pair_for listed_for list_for ring_pair_by unblocked all_b same_spot blocks
high_first_wrong = (refl, refl)

-- Any two records. "Blocked by the other records of that sheet": (0, 0) and (10, 0) are, by the record between them. [J3]
abbrev any_two : List Point → List Pair
any_two S = list_by (λ j i. ltb (id_at S j) (id_at S i)) (pair_at S S) (length S) (length S)

abbrev in_line : List Point
in_line = at 1 0 0 ∷ at 2 5 0 ∷ at 3 10 0 ∷ []

pub any_two_wrong : (any_two in_line ≡ to 1 2 25 ∷ to 1 3 100 ∷ to 2 3 25 ∷ []) × (list_for alone [] in_line in_line ≡ to 1 2 25 ∷ to 2 3 25 ∷ [])
unfolding list_by rows row at_least pair_for listed_for list_for ring_pair_by unblocked all_b same_spot blocks
any_two_wrong = (refl, refl)

-- ---- pages

-- "Setting the end mark only when the page is not full: a full last page has it too." [P5, V11]
abbrev mark_not_full : List Pair → Key → ℕ → Bool
mark_not_full l k n = ltb (length (shown l k n)) n

abbrev ours : Source
ours = record { p_edition = 7; q_edition = 9; terms = full }

abbrev three : List Pair
three = to 5 1 16 ∷ to 5 2 36 ∷ to 6 2 37 ∷ []

pub mark_not_full_wrong : (mark_not_full three (key 5 2) 1 ≡ false) × ((page_of ours three (key 5 2) 1).end ≡ true)
unfolding page_of shown after follows last_or is_none
mark_not_full_wrong = (refl, refl)

-- "a page maker honest on the first page and then closing with an empty one": the page of (5, 2) shows a pair. [P4, P5, V5]
abbrev closes_empty : List Pair → Key → ℕ → List Pair
closes_empty l k n = cond (eqb k.q 0) (shown l k n) []

pub closes_empty_wrong : (closes_empty three (key 5 2) 2 ≡ []) × (shown three (key 5 2) 2 ≡ to 6 2 37 ∷ [])
unfolding shown after follows
closes_empty_wrong = (refl, refl)

-- The pairs that follow stand in the unused places. "Unused pairs are three zeros." [P6]
abbrev goes_on : List Pair → Key → List Pair
goes_on l k = after k l

pub unused_filled_wrong :
    (get_or (goes_on three start) 2 none ≡ to 6 2 37) × (get_or (page_of ours three start 2).pairs 2 none ≡ none) × ((page_of ours three start 2).count ≡ 2)
unfolding page_of padded shown after follows last_or is_none
unused_filled_wrong = (refl, refl, refl)

-- From the key on. "strictly after the key". [P4]
abbrev from_key : Key → List Pair → List Pair
from_key k [] = []
from_key k (v ∷ l) = cond (follows (key_of v) k) (from_key k l) (v ∷ from_key k l)

pub from_key_wrong : (take 1 (from_key (key 5 2) three) ≡ to 5 2 36 ∷ []) × (shown three (key 5 2) 1 ≡ to 6 2 37 ∷ [])
unfolding shown after follows
from_key_wrong = (refl, refl)

-- Any size up to 16. "a size 1 to 16": 0 is refused by 10, and so is it of the k shortest and of the pump houses nearest first. [P1, N23, G10, H3, H5]
abbrev up_to_sixteen : ℕ → ℕ
up_to_sixteen n = given (not (leb n 16)) 10

pub size_zero_wrong : (up_to_sixteen 0 ≡ 0) × (size_no 0 ≡ 10)
unfolding size_no given
size_zero_wrong = (refl, refl)

-- ---- what list a page is of

abbrev of_t : ℕ → Source
of_t t = record { p_edition = 7; q_edition = 7; terms = with_t t }

abbrev own : ℕ → Source
own e = record { p_edition = e; q_edition = e; terms = alone }

abbrev differs : Source → Source → Bool
differs a b = not (eqb a.p_edition b.p_edition && eqb a.q_edition b.q_edition)

-- The editions alone. "31 page of another t". [T6, T11]
abbrev editions_alone : Source → Source → ℕ
editions_alone a b = given (differs a b) 13

pub other_t_wrong : (editions_alone (of_t 0) (of_t 2) ≡ 0) × (source_no (of_t 0) (of_t 2) ≡ 31)
unfolding source_no first given
other_t_wrong = (refl, refl)

-- "so that no self join's page enters a two-sheet book". [J10, J11]
pub other_kind_wrong : (editions_alone (of_t 0) (own 7) ≡ 0) × (source_no (of_t 0) (own 7) ≡ 22)
unfolding source_no first given
other_kind_wrong = (refl, refl)

-- The editions before the kind. "22 wrong kind, after 12 and before 13". [N32, J11]
abbrev kind_last : Source → Source → ℕ
kind_last a b = first (editions_alone a b ∷ given (a.terms.own || b.terms.own) 22 ∷ [])

pub kind_last_wrong : (kind_last (of_t 0) (own 8) ≡ 13) × (source_no (of_t 0) (own 8) ≡ 22)
unfolding source_no first given
kind_last_wrong = (refl, refl)

-- t before the editions. "31 page of another t, after 13". [N32, T11]
abbrev threshold_first : Source → Source → ℕ
threshold_first a b = first (given (not (eqb a.terms.threshold b.terms.threshold)) 31 ∷ editions_alone a b ∷ [])

abbrev later : Source
later = record { p_edition = 8; q_edition = 9; terms = with_t 2 }

pub threshold_first_wrong : (threshold_first (of_t 0) later ≡ 31) × (source_no (of_t 0) later ≡ 13)
unfolding source_no first given
threshold_first_wrong = (refl, refl)
