-- Wrong readings of page requests, of what they count, and of a chamber's partners.
use mathlib.Core.Path.{◌≡◌, refl, sym, ap, ◌∙◌}
use mathlib.Core.Bool.{Bool, true, false, not, ◌&&◌, true≢false}
use mathlib.Core.List.{List, [], ◌∷◌}
use Prim.Native.Nat.{ℕ, suc}
use native.Mathlib.Omega.{arith}
use lib.Dec.{eqb, leb, ltb}
use lib.IntN.{ℤ}
use lib.ListN.{length, get_or, replicate}
use Rattle.words.specs.Word.{num, eq_z, within, before, is_below, min_z, max_z}
use Rattle.words.specs.All.{all_b, first_b, tab}
use Rattle.words.specs.First.{given, first, answer}
use Rattle.words.specs.Range.{last_id, id_word, edition_word, coord_word}
use Rattle.plane.specs.Rule.{same_spot, in_box, blocks, drops, drops_box, far, inside}
use Rattle.plane.specs.Profile.{side_in}
use Rattle.plane.specs.Point.{Point, id_at}
use Rattle.sheet.specs.Limits.{form1, limits_of}
use Rattle.sheet.specs.Layout.{counts_ok, root_word, layout_ok, trailer_no}
use Rattle.sheet.specs.Points.{fields_ok, rises_ok, point_ok, points_ok}
use Rattle.sheet.specs.Order.{order_of, rank_of, place_ok, order_ok}
use Rattle.sheet.specs.Nodes.{level_of, first_of, count_of, same_level, due_next, due_of, run_ok, is_last, end_ok, node_rule, node_ok, table_ok, nodes_ok}
use Rattle.sheet.specs.Boxes.{side_of, coord_of, better, best, tight_side, tight_ok, sum_over}
use Rattle.sheet.specs.Open.{body_no, open_no, sheet_no}
use Rattle.sheet.specs.Places.{spot_of, box_of, points_of}
use Rattle.sheet.specs.Find.{position_of}
use Rattle.bits.specs.Set.{digit, at as bit_at, kept, with, none, words_for, wiped, some}
use Rattle.list.specs.declared.Key.{Key}
use Rattle.list.specs.declared.Pair.{Pair}
use Rattle.list.specs.declared.Request.{Request}
use Rattle.list.specs.Pairs.{start, none as none_pair, follows, after, chamber_pairs}
use Rattle.list.specs.Pages.{threshold_no, size_no, contractor_no, owners_no, padded, shown, page_of}
use Rattle.list.specs.Rows.{row, rows, at_least, list_by}
use Rattle.list.specs.RingList.{unblocked, ring_pair_by, ring_list_by, ring_list}
use Rattle.list.specs.Terms.{pair_for, listed_for, list_for}
use Rattle.walk.specs.Walk.{in_turn, walk, walk_all}
use Rattle.walk.specs.FilterWalk.{dropped, shut, consider, filter_place, filter_take, filter_visit, filter_kept, filter_keeps, keeps_by, keeps_opened}
use Rattle.walk.specs.SelfWalk.{pass_take, pass_kept, pass_keeps_by, pass_opened}
use Rattle.walk.specs.RingWalk.{meet, ring_take, enter, ring_visit, ring_on, ring_walk, pair_walk_by, pair_walk}
use Rattle.join.specs.Walks.{Walks}
use Rattle.join.specs.Work.{first_from, ring_steps, steps, spent_on, page_opened}
use Rattle.join.specs.Sheets.{walks_of, self_walks}
use Rattle.join.specs.Threshold.{found_for, ring_opened, all_walked, walks_for, smaller}
use Rattle.ring.specs.declared.Paged.{Paged}
use Rattle.ring.specs.Lent.{need, bits_no, kept_by, wiped_by}
use Rattle.ring.specs.Numbers.{sheets_no, position_no, grid_no, filter_no}
use Rattle.ring.specs.Answers.{filtered_bits}
use Rattle.ring.specs.Page.{key_no, asked_no, page_no, page_given, page_refused, page_answer, page_bits}
use Rattle.ring.specs.Partners.{id_no, least_no, partners_no, partners_count, partners_given}
use Rattle.refuted.proofs.Cases.{key, chambers, pump_sheet, chamber_sheet, words, nothing, no_form}

-- ---- the count of nodes opened

-- "an invented number of nodes opened": one for each chamber. Over a sheet of nothing no node is opened. [P8, V6]
abbrev one_each : Walks → Walks
one_each w = record { kept = w.kept; kept_opened = λ j. 1; clear = w.clear; clear_opened = w.clear_opened; qid = w.qid; pair = w.pair }

pub invented_count_wrong :
    (page_opened (one_each (walks_of false 1 nothing chamber_sheet)) start 2 0 2 ≡ 2) × (page_opened (walks_of false 1 nothing chamber_sheet) start 2 0 2 ≡ 0)
unfolding page_opened steps ring_steps spent_on first_from first_b follows points_of tab pair_walk_by filter_kept keeps_by keeps_opened filter_visit filter_take filter_place consider dropped shut some none kept with bit_at digit drops drops_box in_box ring_walk ring_on ring_visit ring_take meet enter walk_all walk in_turn level_of first_of count_of box_of side_of spot_of order_of num blocks same_spot far side_in inside
invented_count_wrong = (refl, refl)

-- Partners before the key are walked too. "its kept partners after the key are ring-walked in id order". [P10]
abbrev early_walked : Walks → Key → ℕ → ℕ → ℕ → ℕ
early_walked w k size np nq = page_opened w (key k.q 0) size np nq

pub early_walked_wrong :
    (early_walked (walks_of false 1 pump_sheet chamber_sheet) (key 5 2) 16 2 2 ≡ 8) × (page_opened (walks_of false 1 pump_sheet chamber_sheet) (key 5 2) 16 2 2 ≡ 4)
unfolding page_opened steps ring_steps spent_on first_from first_b follows points_of tab pair_walk_by filter_kept keeps_by keeps_opened filter_visit filter_take filter_place consider dropped shut some none kept with bit_at digit drops drops_box in_box ring_walk ring_on ring_visit ring_take meet enter walk_all walk in_turn level_of first_of count_of box_of side_of spot_of order_of num blocks same_spot far side_in inside
early_walked_wrong = (refl, refl)

-- The work stops with the page's last pair. "the work stops at the first pair beyond the size, or after the last q". [P11]
pub stops_full_wrong :
    (spent_on 1 (steps (walks_of false 1 pump_sheet chamber_sheet) start 2 2 0) ≡ 5) × (page_opened (walks_of false 1 pump_sheet chamber_sheet) start 2 2 2 ≡ 8)
unfolding page_opened steps ring_steps spent_on first_from first_b follows points_of tab pair_walk_by filter_kept keeps_by keeps_opened filter_visit filter_take filter_place consider dropped shut some none kept with bit_at digit drops drops_box in_box ring_walk ring_on ring_visit ring_take meet enter walk_all walk in_turn level_of first_of count_of box_of side_of spot_of order_of num blocks same_spot far side_in inside
stops_full_wrong = (refl, refl)

-- The count of t is that of the full list. "With t above 0 a page's count takes in all kept partners of each chamber reached, the last one too": one chamber with
-- three partners, of which the third is walked after the second, the first pair beyond the size. [T7]
abbrev corners : List ℤ
corners = words (1 ∷ 0 ∷ 0 ∷ 2 ∷ 10 ∷ 0 ∷ 3 ∷ 5 ∷ 12 ∷ 0 ∷ 1 ∷ 2 ∷ 0 ∷ 1 ∷ 2 ∷ 0 ∷ 0 ∷ 3 ∷ 0 ∷ 0 ∷ 10 ∷ 12 ∷ 22 ∷ 7 ∷ 3 ∷ 1 ∷ 7 ∷ 1 ∷ [])

abbrev middle : List ℤ
middle = words (5 ∷ 5 ∷ 5 ∷ 0 ∷ 0 ∷ 0 ∷ 0 ∷ 1 ∷ 5 ∷ 5 ∷ 5 ∷ 5 ∷ 12 ∷ 7 ∷ 1 ∷ 1 ∷ 9 ∷ 1 ∷ [])

pub count_of_t_wrong : (page_opened (walks_of false 1 corners middle) start 1 3 1 ≡ 5) × (page_opened (walks_for (walks_of false 1 corners middle) 3 1) start 1 3 1 ≡ 7)
unfolding walks_for all_walked ring_opened found_for sum_over row page_opened steps ring_steps spent_on first_from first_b follows points_of tab pair_walk_by filter_kept keeps_by keeps_opened filter_visit filter_take filter_place consider dropped shut some none kept with bit_at digit drops drops_box in_box ring_walk ring_on ring_visit ring_take meet enter walk_all walk in_turn level_of first_of count_of box_of side_of spot_of order_of num blocks same_spot far side_in inside
count_of_t_wrong = (refl, refl)

-- q is walked with itself, in a self join. "Pairs of two different records"; "kept partners of higher id get one ring walk". [J8, J9]
abbrev with_itself : List ℤ → Walks
with_itself S =
    record {
      kept = λ j i. filter_keeps 1 S (spot_of S j) i && leb (id_at (points_of S) j) (id_at (points_of S) i);
      kept_opened = λ j. (filter_kept 1 S (spot_of S j)).opened;
      clear = (self_walks false 1 S).clear;
      clear_opened = (self_walks false 1 S).clear_opened;
      qid = (self_walks false 1 S).qid;
      pair = (self_walks false 1 S).pair;
    }

pub with_itself_wrong :
    (page_opened (with_itself pump_sheet) start 16 2 2 ≡ 5) × (page_opened (self_walks false 1 pump_sheet) start 16 2 2 ≡ 3)
unfolding pass_kept pass_keeps_by pass_opened pass_take page_opened steps ring_steps spent_on first_from first_b follows points_of tab pair_walk_by filter_kept keeps_by keeps_opened filter_visit filter_take filter_place consider dropped shut some none kept with bit_at digit drops drops_box in_box ring_walk ring_on ring_visit ring_take meet enter walk_all walk in_turn level_of first_of count_of box_of side_of spot_of order_of num blocks same_spot far side_in inside
with_itself_wrong = (refl, refl)

-- Both sheets are walked for a pair of a self join: "one ring walk". [J9]
abbrev walked_twice : List ℤ → Walks
walked_twice S =
    record {
      kept = (self_walks false 1 S).kept;
      kept_opened = (self_walks false 1 S).kept_opened;
      clear = (self_walks false 1 S).clear;
      clear_opened = λ j i. (pair_walk S S j i).opened;
      qid = (self_walks false 1 S).qid;
      pair = (self_walks false 1 S).pair;
    }

pub walked_twice_wrong :
    (page_opened (walked_twice pump_sheet) start 16 2 2 ≡ 4) × (page_opened (self_walks false 1 pump_sheet) start 16 2 2 ≡ 3)
unfolding pass_kept pass_keeps_by pass_opened pass_take page_opened steps ring_steps spent_on first_from first_b follows points_of tab pair_walk_by filter_kept keeps_by keeps_opened filter_visit filter_take filter_place consider dropped shut some none kept with bit_at digit drops drops_box in_box ring_walk ring_on ring_visit ring_take meet enter walk_all walk in_turn level_of first_of count_of box_of side_of spot_of order_of num blocks same_spot far side_in inside
walked_twice_wrong = (refl, refl)

-- ---- numbers of refusal

abbrev request : Request
request = record { key = start; size = 2; threshold = 0; contractor = 2; grid = false }

-- "refusing all": the document's own request, with the one word that two points need, is served. [N22, D2, V1]
pub refusing_all_wrong : (k : ℕ) → page_answer pump_sheet chamber_sheet [] request 1 ≡ page_refused (suc k) → ⊥
unfolding page_answer page_no grid_no page_given page_refused answer contractor_no owners_no key_no size_no threshold_no bits_no words_for open_no body_no trailer_no first given counts_ok within edition_word layout_ok root_word points_ok point_ok fields_ok rises_ok id_word coord_word before order_ok place_ok is_below rank_of order_of nodes_ok table_ok node_ok node_rule run_ok end_ok is_last same_level due_of due_next tight_ok tight_side best better min_z max_z coord_of side_of level_of first_of count_of eq_z num all_b limits_of form1
refusing_all_wrong k e = let z : 0 ≡ suc k = ap (λ (r : Paged). r.number) e in omega arith

-- "an unchanging list", of what ships: of sheets that open, the pages' pairs are not always the same. [D2, V2]
pub unchanging_page_wrong : (l : List Pair) → ((P Q : List ℤ) → sheets_no P Q ≡ 0 → (page_answer P Q [] request (need P)).page.pairs ≡ l) → ⊥
unfolding page_answer page_no grid_no page_given page_refused answer contractor_no owners_no key_no size_no threshold_no bits_no words_for open_no body_no trailer_no first given counts_ok within edition_word layout_ok root_word points_ok point_ok fields_ok rises_ok id_word coord_word before order_ok place_ok is_below rank_of order_of nodes_ok table_ok node_ok node_rule run_ok end_ok is_last same_level due_of due_next tight_ok tight_side best better min_z max_z coord_of side_of level_of first_of count_of eq_z num all_b limits_of form1 sheets_no page_of shown padded after follows list_for listed_for pair_for at_least list_by rows row ring_pair_by unblocked blocks same_spot points_of tab spot_of
unchanging_page_wrong l same =
    true≢false (ap (λ (k : List Pair). eqb (get_or k 0 none_pair).q 5) (same pump_sheet chamber_sheet refl ∙ sym (same nothing chamber_sheet refl)))

-- Q before P. "1 to 8 for P, then for Q": P has a form number that is none, and Q has under 6 words. [N18]
abbrev chambers_first : List ℤ → List ℤ → ℕ
chambers_first P Q = first (sheet_no Q ∷ sheet_no P ∷ [])

pub chambers_first_wrong : (chambers_first no_form [] ≡ 1) × (sheets_no no_form [] ≡ 2)
unfolding sheets_no open_no trailer_no first given eq_z limits_of form1
chambers_first_wrong = (refl, refl)

-- A key's ids are from 1. "each 0 to 2,000,000,000". [P1, N22]
abbrev from_one : Key → ℕ
from_one k = given (not (leb 1 k.q && leb k.q last_id && leb 1 k.p && leb k.p last_id)) 9

pub key_from_one_wrong : (from_one start ≡ 9) × (key_no start ≡ 0)
unfolding key_no given
key_from_one_wrong = (refl, refl)

-- t before the size. "21 [..] after 10 for a page". [T10]
abbrev t_before_size : Key → ℕ → ℕ → ℕ
t_before_size k size t = first (key_no k ∷ threshold_no t ∷ size_no size ∷ [])

pub t_before_size_wrong : (t_before_size start 0 60001 ≡ 21) × (asked_no pump_sheet chamber_sheet false start 0 60001 ≡ 10)
unfolding asked_no grid_no eq_z key_no size_no threshold_no first given
t_before_size_wrong = (refl, refl)

-- 24 before 9. "24 bit slice too short, after all others but 16 and 25": of a position past Q's points and no words it is 9. [Y15]
abbrev bits_first : List ℤ → List ℤ → ℕ → ℕ → ℕ
bits_first P Q j len = first (bits_no (need P) len ∷ position_no Q j ∷ [])

pub bits_before_position_wrong : (bits_first pump_sheet chamber_sheet 2 0 ≡ 24) × (filter_no pump_sheet chamber_sheet 2 0 ≡ 9)
unfolding filter_no position_no bits_no words_for open_no body_no trailer_no first given counts_ok within edition_word layout_ok root_word points_ok point_ok fields_ok rises_ok id_word coord_word before order_ok place_ok is_below rank_of order_of nodes_ok table_ok node_ok node_rule run_ok end_ok is_last same_level due_of due_next tight_ok tight_side best better min_z max_z coord_of side_of level_of first_of count_of eq_z num all_b limits_of form1
bits_before_position_wrong = (refl, refl)

-- ---- the lent words

-- All lent words are 0 after a page. "any other call zeros, and none touches words past them": two points need one word. [Y11]
abbrev all_cleared : List ℕ → List ℕ
all_cleared ws = replicate (length ws) 0

pub clears_all_wrong : (all_cleared (9 ∷ 9 ∷ []) ≡ 0 ∷ 0 ∷ []) × (page_bits pump_sheet chamber_sheet [] request (9 ∷ 9 ∷ []) ≡ 0 ∷ 9 ∷ [])
unfolding page_bits wiped_by wiped page_no grid_no answer contractor_no owners_no key_no size_no threshold_no bits_no words_for open_no body_no trailer_no first given counts_ok within edition_word layout_ok root_word points_ok point_ok fields_ok rises_ok id_word coord_word before order_ok place_ok is_below rank_of order_of nodes_ok table_ok node_ok node_rule run_ok end_ok is_last same_level due_of due_next tight_ok tight_side best better min_z max_z coord_of side_of level_of first_of count_of eq_z num all_b limits_of form1
clears_all_wrong = (refl, refl)

-- A filter walk leaves zeros, as any other call does. "a filter walk leaves its kept set there": chamber 5 keeps both pump houses. [Y9]
abbrev filter_wiped : List ℕ → List ℕ
filter_wiped ws = wiped_by (filter_no pump_sheet chamber_sheet 0 (length ws)) (need pump_sheet) ws

pub filter_wiped_wrong : (filter_wiped (9 ∷ 9 ∷ []) ≡ 0 ∷ 9 ∷ []) × (filtered_bits pump_sheet chamber_sheet 0 (9 ∷ 9 ∷ []) ≡ 3 ∷ 9 ∷ [])
unfolding filtered_bits kept_by wiped_by wiped filter_no position_no answer bits_no words_for open_no body_no trailer_no first given counts_ok within edition_word layout_ok root_word points_ok point_ok fields_ok rises_ok id_word coord_word before order_ok place_ok is_below rank_of order_of nodes_ok table_ok node_ok node_rule run_ok end_ok is_last same_level due_of due_next tight_ok tight_side best better min_z max_z coord_of side_of level_of first_of count_of eq_z num all_b limits_of form1 filter_kept keeps_by keeps_opened filter_visit filter_take filter_place consider dropped shut some walk_all walk in_turn none kept with bit_at digit box_of spot_of blocks drops drops_box same_spot in_box
filter_wiped_wrong = (refl, refl)

-- ---- a chamber's partners

-- The id of a pump house. "20 unknown q id". [T8]
pub pump_id_wrong : (id_no (points_of pump_sheet) 1 ≡ 0) × (id_no (points_of chamber_sheet) 1 ≡ 20)
unfolding id_no given position_of first_b points_of tab spot_of num
pump_id_wrong = (refl, refl)

-- t of 0 in the single question, as in a page's. "21 t outside [its range], or 0 in the single question". [T9]
pub t_of_none_wrong : (threshold_no 0 ≡ 0) × (least_no 0 ≡ 21)
unfolding threshold_no least_no given
t_of_none_wrong = (refl, refl)

-- t before the id: 20, then 21. [T10]
abbrev t_before_id : List Point → ℕ → ℕ → ℕ
t_before_id Q id t = first (least_no t ∷ id_no Q id ∷ [])

pub t_before_id_wrong : (t_before_id chambers 1 0 ≡ 21) × (partners_no nothing nothing 1 0 0 ≡ 20)
unfolding partners_no id_no least_no position_of first_b points_of tab open_no body_no trailer_no first given counts_ok within edition_word layout_ok root_word points_ok point_ok fields_ok rises_ok id_word coord_word before order_ok place_ok is_below rank_of order_of nodes_ok table_ok node_ok node_rule run_ok end_ok is_last same_level due_of due_next tight_ok tight_side best better min_z max_z coord_of side_of level_of first_of count_of eq_z num all_b limits_of form1
t_before_id_wrong = (refl, refl)

-- All partners. "the smaller of t and the number of its pairs in the list". [T1]
abbrev all_partners : List ℤ → List ℤ → ℕ → ℕ
all_partners P Q id = length (chamber_pairs id (ring_list (points_of P) (points_of Q)))

pub all_partners_wrong : (all_partners pump_sheet chamber_sheet 5 ≡ 2) × (partners_count pump_sheet chamber_sheet 5 1 ≡ 1)
unfolding partners_count smaller chamber_pairs ring_list_by list_by rows row ring_pair_by unblocked all_b blocks same_spot points_of tab spot_of num
all_partners_wrong = (refl, refl)

-- A yes only beyond t. "a yes exactly when that is t": chamber 5 has two partners. [T2]
abbrev beyond : List ℤ → List ℤ → ℕ → ℕ → Bool
beyond P Q id t = ltb t (all_partners P Q id)

pub beyond_t_wrong : (beyond pump_sheet chamber_sheet 5 2 ≡ false) × ((partners_given pump_sheet chamber_sheet 5 2).enough ≡ true)
unfolding partners_given partners_count smaller chamber_pairs ring_list_by list_by rows row ring_pair_by unblocked all_b blocks same_spot points_of tab spot_of num
beyond_t_wrong = (refl, refl)
