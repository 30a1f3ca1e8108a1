-- Wrong readings of two contractors in one town.
use mathlib.Core.Path.{◌≡◌, refl}
use mathlib.Core.Bool.{Bool, true, false, not, ◌&&◌, ◌||◌}
use mathlib.Core.List.{List, [], ◌∷◌}
use Prim.Native.Nat.{ℕ}
use lib.Dec.{eqb, leb}
use lib.IntN.{ℤ}
use lib.ListN.{length, take, get_or}
use Rattle.words.specs.Word.{num, eq_z}
use Rattle.words.specs.All.{all_b, first_b, tab}
use Rattle.words.specs.First.{given, first}
use Rattle.words.specs.Range.{edition_ok}
use Rattle.plane.specs.Rule.{same_spot, in_box, blocks, drops, drops_box, far, inside}
use Rattle.plane.specs.Profile.{side_in}
use Rattle.plane.specs.Point.{Point, id_at}
use Rattle.sheet.specs.Order.{order_of, rank_of}
use Rattle.sheet.specs.Nodes.{level_of, first_of, count_of}
use Rattle.sheet.specs.Boxes.{side_of}
use Rattle.sheet.specs.Places.{spot_of, box_of, points_of}
use Rattle.bits.specs.Set.{digit, at as bit_at, kept, with, none, some}
use Rattle.list.specs.declared.Key.{Key}
use Rattle.list.specs.declared.Pair.{Pair}
use Rattle.list.specs.declared.Source.{Source}
use Rattle.list.specs.declared.Terms.{Terms}
use Rattle.list.specs.declared.Page.{Page}
use Rattle.list.specs.declared.Request.{Request}
use Rattle.list.specs.Pairs.{start, follows, after, last_or, is_none}
use Rattle.list.specs.Pages.{threshold_no, size_no, contractor_no, owners_no, same_kind, same_profile, source_no, shown, page_of}
use Rattle.list.specs.Contractor.{mine, one_each}
use Rattle.list.specs.Rows.{row, rows, at_least, list_by}
use Rattle.list.specs.RingList.{unblocked, ring_pair, pair_at, ring_pair_by, ring_list_by, ring_list}
use Rattle.list.specs.Terms.{full, with_t, alone, with_by, of_contractor, pair_for, listed_for, list_for}
use Rattle.walk.specs.Walk.{in_turn, walk, walk_all}
use Rattle.walk.specs.FilterWalk.{dropped, shut, consider, filter_place, filter_take, filter_visit, filter_kept, keeps_by, keeps_opened}
use Rattle.walk.specs.RingWalk.{meet, ring_take, enter, ring_visit, ring_on, ring_walk, pair_walk_by}
use Rattle.join.specs.Work.{first_from, ring_steps, steps, spent_on, page_opened}
use Rattle.join.specs.Sheets.{walks_of}
use Rattle.join.specs.Only.{only_for}
use Rattle.ring.specs.Numbers.{grid_no}
use Rattle.ring.specs.Page.{key_no, request_no}
use Rattle.book.specs.Rules.{begin_no}
use Rattle.refuted.proofs.Cases.{at, to, key, words, pumps, chambers, pump_sheet, wide_pumps, chamber_sheet}

-- ---- whose a chamber is

-- the first chamber is contractor 0's, the second 1's
abbrev owners : List ℕ
owners = 0 ∷ 1 ∷ []

-- the list of a contractor, of the document's two sets
abbrev list_of : ℕ → List ℕ → List Point → List Pair
list_of c o Q = list_for (of_contractor c full) o pumps Q

-- the document's chambers, in a sheet whose order has the second first
abbrev turned : List ℤ
turned = words (5 ∷ 4 ∷ 0 ∷ 6 ∷ 16 ∷ 1 ∷ 1 ∷ 0 ∷ 1 ∷ 0 ∷ 0 ∷ 0 ∷ 2 ∷ 4 ∷ 0 ∷ 16 ∷ 1 ∷ 17 ∷ 7 ∷ 2 ∷ 1 ∷ 9 ∷ 1 ∷ [])

-- The bytes go by place. "A lent byte per chamber, by position": in this sheet the chamber of position 0 has place 1. [U1]
abbrev by_place : ℕ → List ℕ → List ℤ → ℕ → Bool
by_place c o w j = eqb (get_or o (rank_of w 2 j) 2) c

pub by_place_wrong : (by_place 0 owners turned 0 ≡ false) × (mine 0 owners 0 ≡ true) × (by_place 0 owners turned 1 ≡ true) × (mine 0 owners 1 ≡ false)
unfolding rank_of num
by_place_wrong = (refl, refl, refl, refl)

-- One byte decides for all chambers, the first. "A lent byte per chamber, by position". [U1]
abbrev first_byte : ℕ → List ℕ → ℕ → Bool
first_byte c o j = mine c o 0

pub first_byte_wrong : (first_byte 0 owners 1 ≡ true) × (mine 0 owners 1 ≡ false)
first_byte_wrong = (refl, refl)

-- The bytes are of pump houses. "A lent byte per chamber": chamber 5 is contractor 0's, with all its pairs. [U1, U2]
abbrev by_pump : ℕ → List ℕ → List Pair
by_pump c o = list_by (λ j i. eqb (get_or o i 2) c && ring_pair pumps chambers j i) (pair_at pumps chambers) 2 2

pub owners_of_pumps_wrong : (by_pump 0 owners ≡ to 5 1 16 ∷ []) × (list_of 0 owners chambers ≡ to 5 1 16 ∷ to 5 2 36 ∷ [])
unfolding list_by rows row at_least pair_for listed_for list_for ring_pair_by unblocked all_b same_spot blocks
owners_of_pumps_wrong = (refl, refl)

-- Contractor 2 has the chambers whose byte is 2. "2 for an undivided list": it has all. [U4]
abbrev by_byte : ℕ → List ℕ → ℕ → Bool
by_byte c o j = eqb (get_or o j 2) c

pub two_by_byte_wrong : (by_byte 2 owners 0 ≡ false) × (by_byte 2 owners 1 ≡ false) × (mine 2 owners 0 ≡ true) × (mine 2 owners 1 ≡ true)
two_by_byte_wrong = (refl, refl, refl, refl)

-- ---- the contractor's list

-- Only a contractor's own chambers block. "all points still block for both": chamber 6, which is the other's, stands between chamber 5 and pump house 2. [U2, U11]
abbrev between : List Point
between = at 5 4 0 ∷ at 6 7 0 ∷ []

abbrev own_block : List Point → List Pair
own_block Q = ring_list pumps (take 1 Q)

pub own_block_wrong : (own_block between ≡ to 5 1 16 ∷ to 5 2 36 ∷ []) × (list_of 0 owners between ≡ to 5 1 16 ∷ [])
unfolding list_by rows row at_least pair_for listed_for list_for ring_pair_by ring_list_by unblocked all_b same_spot blocks
own_block_wrong = (refl, refl)

-- One list for both. "each ring pair in exactly one": contractor 1 has the pair of chamber 6, and contractor 0 has not. [U3]
pub one_list_wrong : (list_of 0 owners chambers ≡ to 5 1 16 ∷ to 5 2 36 ∷ []) × (list_of 1 owners chambers ≡ to 6 2 37 ∷ []) × (list_of 2 [] chambers ≡ to 5 1 16 ∷ to 5 2 36 ∷ to 6 2 37 ∷ [])
unfolding list_by rows row at_least pair_for listed_for list_for ring_pair_by unblocked all_b same_spot blocks
one_list_wrong = (refl, refl, refl)

-- The other's chambers are filtered and counted. "Only its own chambers are filtered and counted": of contractor 0 those of chamber 5, of 1 those of chamber 6. [U7]
abbrev counted : (ℕ → Bool) → ℕ
counted m = page_opened (only_for m (walks_of false 1 pump_sheet chamber_sheet)) start 16 2 2

pub others_counted_wrong : (page_opened (walks_of false 1 pump_sheet chamber_sheet) start 16 2 2 ≡ 8) × (counted (mine 0 owners) ≡ 5) × (counted (mine 1 owners) ≡ 3)
unfolding only_for page_opened steps ring_steps spent_on first_from first_b follows points_of tab pair_walk_by filter_kept keeps_by keeps_opened filter_visit filter_take filter_place consider dropped shut some none kept with bit_at digit drops drops_box in_box ring_walk ring_on ring_visit ring_take meet enter walk_all walk in_turn level_of first_of count_of box_of side_of spot_of order_of num blocks same_spot far side_in inside
others_counted_wrong = (refl, refl, refl)

-- ---- what a contractor is handed

-- the same town with another id of the other's chamber, which moves its position: contractor 0's list is the same
abbrev renamed : List Point
renamed = at 3 16 1 ∷ at 5 4 0 ∷ []

abbrev moved : List ℕ
moved = 1 ∷ 0 ∷ []

abbrev page_over : List ℕ → List Point → Key → Page
page_over o Q k = page_of (record { p_edition = 7; q_edition = 9; terms = of_contractor 0 full }) (list_of 0 o Q) k 16

-- The end mark goes by the whole list. "What one contractor is handed may not depend on the ids of the other's chambers": with 6 the other's pair follows, with 3 none does. [U5]
abbrev whole_end : List ℕ → List Point → Key → Bool
whole_end o Q k = is_none (after (last_or k (shown (list_of 0 o Q) k 16)) (ring_list pumps Q))

pub whole_end_wrong : (whole_end owners chambers start ≡ false) × (whole_end moved renamed start ≡ true) × ((page_over owners chambers start).end ≡ true) × ((page_over moved renamed start).end ≡ true)
unfolding page_of shown after follows last_or is_none list_by rows row at_least pair_for listed_for list_for ring_pair_by ring_list_by unblocked all_b same_spot blocks
whole_end_wrong = (refl, refl, refl, refl)

-- A hint of more. The page's number goes up to its size where the other's pairs follow: they do with 6, and do not with 3. [U5]
abbrev hinted : List Point → Key → ℕ
hinted Q k = length (shown (ring_list pumps Q) k 16)

pub hinted_wrong : (hinted chambers (key 5 1) ≡ 2) × (hinted renamed (key 5 1) ≡ 1) × ((page_over owners chambers (key 5 1)).count ≡ 1) × ((page_over moved renamed (key 5 1)).count ≡ 1)
unfolding page_of shown after follows last_or is_none list_by rows row at_least pair_for listed_for list_for ring_pair_by ring_list_by unblocked all_b same_spot blocks
hinted_wrong = (refl, refl, refl, refl)

-- a request of contractor c
abbrev ask : ℕ → Bool → Key → Request
ask c g k = record { key = k; size = 16; threshold = 0; contractor = c; grid = g }

abbrev asked : List ℕ → Request → ℕ
asked o a = request_no pump_sheet chamber_sheet o 2 a

-- A key of the other's chamber is refused. "equal requests give the first contractor equal pages or refusals": 6 is the other's in one run, and nobody's in the other. [U5]
abbrev strange_key : List ℕ → List Point → Key → ℕ
strange_key o Q k = given (not (all_b (length Q) (λ j. mine 0 o j || not (eqb (id_at Q j) k.q)))) 9

pub strange_key_wrong : (strange_key owners chambers (key 6 0) ≡ 9) × (strange_key moved renamed (key 6 0) ≡ 0) × (asked owners (ask 0 false (key 6 0)) ≡ 0) × (asked moved (ask 0 false (key 6 0)) ≡ 0)
unfolding request_no contractor_no owners_no one_each grid_no key_no size_no threshold_no first given all_b
strange_key_wrong = (refl, refl, refl, refl)

-- ---- 27 and 26

-- 26 before 27. "27 contractor outside 0 to 2 [..]; then 26 owner bytes not one 0 or 1 a chamber". [U13, U14]
abbrev bytes_first : ℕ → List ℕ → ℕ → ℕ
bytes_first c o n = first (owners_no c o n ∷ contractor_no false c ∷ [])

pub bytes_first_wrong : (bytes_first 3 [] 2 ≡ 26) × (asked [] (ask 3 false start) ≡ 27)
unfolding request_no contractor_no owners_no one_each grid_no key_no size_no threshold_no first given
bytes_first_wrong = (refl, refl)

-- 26 after 9. "both before 9". [U13, U14]
abbrev key_first : ℕ → List ℕ → ℕ → Key → ℕ
key_first c o n k = first (key_no k ∷ contractor_no false c ∷ owners_no c o n ∷ [])

pub key_first_wrong : (key_first 0 [] 2 (key 2000000001 0) ≡ 9) × (asked [] (ask 0 false (key 2000000001 0)) ≡ 26) × (asked [] (ask 3 false (key 2000000001 0)) ≡ 27)
unfolding request_no contractor_no owners_no one_each grid_no key_no size_no threshold_no first given
key_first_wrong = (refl, refl, refl)

-- 26 after 29. "29 a form 2 sheet, after 26 and before 9". [U14]
pub form_before_bytes_wrong :
    (first (grid_no true wide_pumps chamber_sheet ∷ owners_no 0 [] 2 ∷ []) ≡ 29) × (request_no wide_pumps chamber_sheet [] 2 (ask 0 true start) ≡ 26)
unfolding request_no contractor_no owners_no one_each grid_no eq_z key_no size_no threshold_no first given
form_before_bytes_wrong = (refl, refl)

-- Any bytes for an undivided list. "or any for 2". [U14]
abbrev any_for_two : ℕ → List ℕ → ℕ → ℕ
any_for_two c o n = given (not (eqb c 2 || one_each o n)) 26

pub any_for_two_wrong : (any_for_two 2 owners 2 ≡ 0) × (owners_no 2 owners 2 ≡ 26)
unfolding owners_no one_each all_b given
any_for_two_wrong = (refl, refl)

-- As many bytes as chambers, whatever they say. "one 0 or 1 a chamber". [U14]
abbrev as_many : List ℕ → ℕ → ℕ
as_many o n = given (not (eqb (length o) n)) 26

pub any_byte_wrong : (as_many (0 ∷ 2 ∷ []) 2 ≡ 0) × (owners_no 0 (0 ∷ 2 ∷ []) 2 ≡ 26)
unfolding owners_no one_each all_b given
any_byte_wrong = (refl, refl)

-- At least, or at most, as many bytes as chambers. [U14]
abbrev zero_or_one : List ℕ → Bool
zero_or_one o = all_b (length o) (λ j. leb (get_or o j 2) 1)

abbrev at_least_one_each : List ℕ → ℕ → ℕ
at_least_one_each o n = given (not (leb n (length o) && zero_or_one o)) 26

abbrev at_most_one_each : List ℕ → ℕ → ℕ
at_most_one_each o n = given (not (leb (length o) n && zero_or_one o)) 26

pub bytes_more_wrong : (at_least_one_each (0 ∷ 1 ∷ 0 ∷ []) 2 ≡ 0) × (owners_no 0 (0 ∷ 1 ∷ 0 ∷ []) 2 ≡ 26)
unfolding owners_no one_each all_b given
bytes_more_wrong = (refl, refl)

-- [U14]
pub bytes_short_wrong : (at_most_one_each (0 ∷ []) 2 ≡ 0) × (owners_no 0 (0 ∷ []) 2 ≡ 26)
unfolding owners_no one_each all_b given
bytes_short_wrong = (refl, refl)

-- No bytes are none too few. "one [..] a chamber": of no chambers. [U14]
abbrev never_none : List ℕ → ℕ
never_none o = given (eqb (length o) 0) 26

pub never_none_wrong : (never_none [] ≡ 26) × (owners_no 0 [] 0 ≡ 0)
unfolding owners_no one_each all_b given
never_none_wrong = (refl, refl)

-- ---- what list a page or a book is of

abbrev source : Terms → ℕ → Source
source a e = record { p_edition = e; q_edition = 7; terms = a }

abbrev kind_and_editions : Source → Source → List ℕ
kind_and_editions a b =
    given (not (same_kind a b)) 22 ∷ given (not (same_profile a b)) 30 ∷ given (not (eqb a.p_edition b.p_edition && eqb a.q_edition b.q_edition)) 13 ∷ []

abbrev whose : Source → Source → ℕ
whose a b = given (not (eqb a.terms.contractor b.terms.contractor)) 28

-- A page of either contractor. "28 page of another contractor": of the other's, and of the undivided list. [U9, U12, U15]
pub other_contractor_wrong :
    (first (kind_and_editions (source (of_contractor 0 full) 7) (source (of_contractor 1 full) 7)) ≡ 0) × (source_no (source (of_contractor 0 full) 7) (source (of_contractor 1 full) 7) ≡ 28) × (source_no (source (of_contractor 0 full) 7) (source full 7) ≡ 28)
unfolding source_no first given
other_contractor_wrong = (refl, refl, refl)

-- 28 after 30, or after 13. "28 page of another contractor, after 22", and "30 page of the other profile, after 28". [U15]
pub contractor_late_wrong :
    (first (kind_and_editions (source (of_contractor 0 full) 7) (source (with_by true 0) 8)) ≡ 30) × (source_no (source (of_contractor 0 full) 7) (source (with_by true 0) 8) ≡ 28) × (first (kind_and_editions (source (of_contractor 0 full) 7) (source full 8)) ≡ 13) × (source_no (source (of_contractor 0 full) 7) (source full 8) ≡ 28)
unfolding source_no first given
contractor_late_wrong = (refl, refl, refl, refl)

-- 28 before 22. [U15]
abbrev contractor_first : Source → Source → ℕ
contractor_first a b = first (whose a b ∷ kind_and_editions a b)

pub contractor_first_wrong : (contractor_first (source (of_contractor 0 full) 7) (source alone 7) ≡ 28) × (source_no (source (of_contractor 0 full) 7) (source alone 7) ≡ 22)
unfolding source_no first given
contractor_first_wrong = (refl, refl)

-- A self join of a contractor. "27 contractor outside 0 to 2, or not 2 for a self join"; "self joins stay undivided". [U10, U13]
abbrev in_range : ℕ → ℕ
in_range c = given (not (leb c 2)) 27

pub own_divided_wrong : (in_range 0 ≡ 0) × (begin_no (source (of_contractor 0 alone) 7) ≡ 27)
unfolding begin_no contractor_no threshold_no edition_ok first given
own_divided_wrong = (refl, refl)

-- 27 before 21, or before 3. "for begin after 21". [U13]
abbrev begins_contractor_first : Source → ℕ
begins_contractor_first s = first (contractor_no s.terms.own s.terms.contractor ∷ threshold_no s.terms.threshold ∷ [])

pub begin_contractor_first_wrong :
    (begins_contractor_first (source (of_contractor 3 (with_t 60001)) 7) ≡ 27) × (begin_no (source (of_contractor 3 (with_t 60001)) 7) ≡ 21) × (begin_no (source (of_contractor 3 full) 0) ≡ 3)
unfolding begin_no contractor_no threshold_no edition_ok first given
begin_contractor_first_wrong = (refl, refl, refl)

-- No 27 at all: a book of contractor 3, which no page is ever of. [U13]
abbrev any_contractor : Source → ℕ
any_contractor s = first (given (not (edition_ok s.p_edition && edition_ok s.q_edition)) 3 ∷ threshold_no s.terms.threshold ∷ [])

pub begin_any_contractor_wrong : (any_contractor (source (of_contractor 3 full) 7) ≡ 0) × (begin_no (source (of_contractor 3 full) 7) ≡ 27)
unfolding begin_no contractor_no threshold_no edition_ok first given
begin_any_contractor_wrong = (refl, refl)
