-- Wrong readings of a leaf's run.
use mathlib.Core.Path.{◌≡◌, refl}
use mathlib.Core.Bool.{Bool, true, false, cond, not, ◌&&◌}
use mathlib.Core.List.{List, [], ◌∷◌, ◌++◌}
use Prim.Native.Nat.{ℕ, ◌+◌}
use lib.Dec.{eqb, leb, ltb}
use lib.IntN.{ℤ, pos}
use lib.ListN.{length, take, drop, replicate}
use Rattle.words.specs.Word.{num, eq_z, within, before, is_below, min_z, max_z}
use Rattle.words.specs.All.{all_b, tab}
use Rattle.words.specs.First.{given, first, answer}
use Rattle.words.specs.Range.{id_word, edition_word, coord_word}
use Rattle.plane.specs.declared.Spot.{Spot}
use Rattle.plane.specs.Rule.{spot, same_spot, in_box, blocks, behind, drops, drops_box, far, inside}
use Rattle.plane.specs.Profile.{side_in}
use Rattle.sheet.specs.Limits.{form1, limits_of}
use Rattle.sheet.specs.Layout.{points, nodes, counts_ok, root_word, layout_ok, trailer_no}
use Rattle.sheet.specs.Points.{fields_ok, rises_ok, point_ok, points_ok}
use Rattle.sheet.specs.Order.{order_of, rank_of, place_ok, order_ok}
use Rattle.sheet.specs.Nodes.{level_of, first_of, count_of, same_level, due_next, due_of, run_ok, is_last, end_ok, node_rule, node_ok, table_ok, nodes_ok}
use Rattle.sheet.specs.Boxes.{side_of, coord_of, better, best, tight_side, tight_ok, sum_over}
use Rattle.sheet.specs.Open.{body_no, open_no}
use Rattle.sheet.specs.Places.{spot_of, box_of, points_of}
use Rattle.bits.specs.Set.{digit, at as bit_at, kept, with, none as no_bits, words_for, wiped}
use Rattle.list.specs.declared.Pair.{Pair}
use Rattle.list.specs.Pairs.{none}
use Rattle.list.specs.Rows.{row, rows, list_by}
use Rattle.list.specs.RingList.{unblocked, ring_pair_by, ring_list_by, ring_list}
use Rattle.walk.specs.Walk.{in_turn, walk, walk_all}
use Rattle.walk.specs.FilterWalk.{Kept, so_far}
use Rattle.walk.specs.RingWalk.{meet, ring_take, enter, ring_visit, ring_on, ring_walk, pair_walk_by}
use Rattle.leaf.specs.LeafWalk.{slot, some_b, chamber_at, chamber_spot, ruled_out, weigh, leaf_take, skips, leaf_visit, leaf_kept, leaf_keeps}
use Rattle.leaf.specs.LeafRun.{leaf_list, leaf_opened}
use Rattle.ring.specs.Lent.{need, bits_no, wiped_by}
use Rattle.runs.specs.Run.{leaf_no, room_no, run_need, run_no, run_slots, run_bits}
use Rattle.refuted.proofs.Cases.{words, to, pump_sheet, chamber_sheet}

-- ---- numbers of refusal

-- The table of seventeen points: two leaves, and above them the root, node 2.
abbrev tall : List ℤ
tall = replicate 85 (pos 0) ++ words (0 ∷ 0 ∷ 16 ∷ 0 ∷ 0 ∷ 0 ∷ 0 ∷ 0 ∷ 16 ∷ 1 ∷ 0 ∷ 0 ∷ 0 ∷ 0 ∷ 1 ∷ 0 ∷ 2 ∷ 0 ∷ 0 ∷ 0 ∷ 0 ∷ 106 ∷ 7 ∷ 17 ∷ 3 ∷ 7 ∷ 1 ∷ [])

-- A node above the leaves is taken for a leaf. "19 no such leaf". [L8]
abbrev any_node : List ℤ → ℕ → ℕ
any_node Q v = given (not (ltb v (nodes Q))) 19

pub node_for_leaf_wrong : (any_node tall 2 ≡ 0) × (leaf_no tall 2 ≡ 19)
unfolding leaf_no given level_of num
node_for_leaf_wrong = (refl, refl)

-- A number past the table, where zeros are read, is taken for a leaf. [L8]
abbrev past_table : List ℤ → ℕ → ℕ
past_table Q v = given (not (eqb (level_of Q (points Q) v) 0)) 19

pub past_table_wrong : (past_table chamber_sheet 9 ≡ 0) × (leaf_no chamber_sheet 9 ≡ 19)
unfolding leaf_no given level_of num
past_table_wrong = (refl, refl)

abbrev three : List Pair
three = to 5 1 16 ∷ to 5 2 36 ∷ to 6 2 37 ∷ []

-- Pairs that just fill the slots are refused. "16 exactly when the pairs outnumber the slots". [L9]
abbrev just_fits : List Pair → ℕ → ℕ
just_fits l len = given (leb len (length l)) 16

pub just_fits_wrong : (just_fits three 3 ≡ 16) × (room_no three 3 ≡ 0)
unfolding room_no given
just_fits_wrong = (refl, refl)

-- 16 before 19. "19 no such leaf, then 16": with no such leaf and no slot lent it is 19. [L8, L9]
abbrev room_first : ℕ → List ℤ → ℕ → ℕ
room_first len Q v = first (given (eqb len 0) 16 ∷ leaf_no Q v ∷ [])

pub room_first_wrong : (room_first 0 chamber_sheet 9 ≡ 16) × (run_no pump_sheet chamber_sheet 9 0 0 ≡ 19)
unfolding run_no leaf_no room_no open_no body_no trailer_no first given counts_ok within edition_word layout_ok root_word points_ok point_ok fields_ok rises_ok id_word coord_word before order_ok place_ok is_below rank_of order_of nodes_ok table_ok node_ok node_rule run_ok end_ok is_last same_level due_of due_next tight_ok tight_side best better min_z max_z coord_of side_of level_of first_of count_of eq_z num all_b limits_of form1
room_first_wrong = (refl, refl)

-- 16 before 24. "24 bit slice too short, after all others but 16 and 25": with neither slots nor words lent it is 24. [Y15]
abbrev room_before_bits : List ℤ → List Pair → ℕ → ℕ → ℕ
room_before_bits P l len bits = first (room_no l len ∷ bits_no (run_need P) bits ∷ [])

pub room_before_bits_wrong : (room_before_bits pump_sheet three 0 0 ≡ 16) × (run_no pump_sheet chamber_sheet 0 0 0 ≡ 24)
unfolding run_no leaf_no bits_no words_for room_no open_no body_no trailer_no first given counts_ok within edition_word layout_ok root_word points_ok point_ok fields_ok rises_ok id_word coord_word before order_ok place_ok is_below rank_of order_of nodes_ok table_ok node_ok node_rule run_ok end_ok is_last same_level due_of due_next tight_ok tight_side best better min_z max_z coord_of side_of level_of first_of count_of eq_z num all_b limits_of form1
room_before_bits_wrong = (refl, refl)

-- As many words as a filter walk needs. "sixteen times as many for a leaf run": two points need sixteen. [Y8]
abbrev filter_words : List ℤ → ℕ → ℕ
filter_words P bits = bits_no (need P) bits

pub filter_words_wrong : (filter_words pump_sheet 1 ≡ 0) × (bits_no (run_need pump_sheet) 1 ≡ 24)
unfolding bits_no words_for given num
filter_words_wrong = (refl, refl)

-- ---- the slots

-- The slots past the pairs go. "the rest of the slice isn't touched". [L2]
abbrev rest_gone : List ℤ → List ℤ → ℕ → List Pair → List Pair
rest_gone P Q v slots = leaf_list P Q v ++ replicate (length (drop (length (leaf_list P Q v)) slots)) none

abbrev marked : List Pair
marked = to 9 9 9 ∷ to 9 9 9 ∷ to 9 9 9 ∷ to 8 8 8 ∷ []

pub rest_touched_wrong :
    (rest_gone pump_sheet chamber_sheet 0 marked ≡ three ++ (none ∷ [])) × (run_slots pump_sheet chamber_sheet 0 marked 16 ≡ three ++ (to 8 8 8 ∷ []))
unfolding run_slots run_no leaf_no bits_no words_for room_no answer leaf_list chamber_at list_by rows row ring_pair_by unblocked blocks same_spot points_of tab spot_of open_no body_no trailer_no first given counts_ok within edition_word layout_ok root_word points_ok point_ok fields_ok rises_ok id_word coord_word before order_ok place_ok is_below rank_of order_of nodes_ok table_ok node_ok node_rule run_ok end_ok is_last same_level due_of due_next tight_ok tight_side best better min_z max_z coord_of side_of level_of first_of count_of eq_z num all_b limits_of form1
rest_touched_wrong = (refl, refl)

-- As many pairs as there are slots for. Refused by 16, the call "leaves lent memory [..] as they stood". [L10]
abbrev filled_up : List ℤ → List ℤ → ℕ → List Pair → List Pair
filled_up P Q v slots = take (length slots) (leaf_list P Q v)

abbrev few : List Pair
few = to 9 9 9 ∷ []

pub filled_up_wrong : (filled_up pump_sheet chamber_sheet 0 few ≡ to 5 1 16 ∷ []) × (run_slots pump_sheet chamber_sheet 0 few 16 ≡ few)
unfolding run_slots run_no leaf_no bits_no words_for room_no answer leaf_list chamber_at list_by rows row ring_pair_by unblocked blocks same_spot points_of tab spot_of open_no body_no trailer_no first given counts_ok within edition_word layout_ok root_word points_ok point_ok fields_ok rises_ok id_word coord_word before order_ok place_ok is_below rank_of order_of nodes_ok table_ok node_ok node_rule run_ok end_ok is_last same_level due_of due_next tight_ok tight_side best better min_z max_z coord_of side_of level_of first_of count_of eq_z num all_b limits_of form1
filled_up_wrong = (refl, refl)

-- A run that is refused by 16 leaves its work on the lent words. Refused, the call "leaves lent memory [..] as they stood": one slot for three pairs. [Y11]
abbrev worked : List ℤ → List ℕ → List ℕ
worked P ws = wiped (run_need P) ws

pub words_lost_wrong : (worked pump_sheet (replicate 17 9) ≡ replicate 16 0 ++ (9 ∷ [])) × (run_bits pump_sheet chamber_sheet 0 1 (replicate 17 9) ≡ replicate 17 9)
unfolding run_bits wiped_by wiped run_no leaf_no bits_no words_for room_no answer leaf_list chamber_at list_by rows row ring_pair_by unblocked blocks same_spot points_of tab spot_of open_no body_no trailer_no first given counts_ok within edition_word layout_ok root_word points_ok point_ok fields_ok rises_ok id_word coord_word before order_ok place_ok is_below rank_of order_of nodes_ok table_ok node_ok node_rule run_ok end_ok is_last same_level due_of due_next tight_ok tight_side best better min_z max_z coord_of side_of level_of first_of count_of eq_z num all_b limits_of form1
words_lost_wrong = (refl, refl)

-- By q id. "by place, then p id": in this leaf chamber 6 stands at the first place. [L1]
abbrev turned : List ℤ
turned = words (5 ∷ 4 ∷ 0 ∷ 6 ∷ 16 ∷ 1 ∷ 1 ∷ 0 ∷ 1 ∷ 0 ∷ 0 ∷ 0 ∷ 2 ∷ 4 ∷ 0 ∷ 16 ∷ 1 ∷ 17 ∷ 7 ∷ 2 ∷ 1 ∷ 9 ∷ 1 ∷ [])

pub by_id_wrong :
    (ring_list (points_of pump_sheet) (points_of turned) ≡ three) × (leaf_list pump_sheet turned 0 ≡ to 6 2 37 ∷ to 5 1 16 ∷ to 5 2 36 ∷ [])
unfolding ring_list_by leaf_list chamber_at list_by rows row ring_pair_by unblocked all_b blocks same_spot points_of tab spot_of order_of first_of count_of num
by_id_wrong = (refl, refl)

-- ---- the walk

-- two chambers at (0, 0) and (20, 0)
abbrev ends : ℕ → Spot
ends k = cond (eqb k 0) (spot (pos 0) (pos 0)) (spot (pos 20) (pos 0))

-- A box is skipped as soon as one chamber skips it. "A box is skipped exactly when each chamber of the leaf skips it": the box from (21, 0) to (25, 0) is skipped
-- for the chamber at (0, 0) by the other, and of that one a ring partner stands there. [L5]
abbrev one_skips : (ℕ → Spot) → ℕ → List ℤ → Kept
one_skips q c w =
    walk_all w 2 1 (λ j go k. cond (some_b c (skips q c 1 w 2 j k.bits)) k (go (so_far k.bits (k.opened + 1)))) (leaf_take q c 1 w 2) (so_far (no_bits 16) 0)

abbrev beyond : List ℤ
beyond = words (1 ∷ 21 ∷ 0 ∷ 2 ∷ 25 ∷ 0 ∷ 0 ∷ 1 ∷ 0 ∷ 1 ∷ 0 ∷ 0 ∷ 2 ∷ 21 ∷ 0 ∷ 25 ∷ 0 ∷ 17 ∷ 7 ∷ 2 ∷ 1 ∷ 7 ∷ 1 ∷ [])

pub one_skips_wrong : (kept (one_skips ends 2 beyond).bits (slot 1 1 0) ≡ false) × (leaf_keeps ends 2 1 beyond 1 0 ≡ true)
unfolding leaf_kept leaf_visit leaf_take skips weigh ruled_out walk_all walk in_turn no_bits kept with bit_at digit all_b level_of first_of count_of box_of side_of spot_of order_of num drops drops_box blocks same_spot in_box
one_skips_wrong = (refl, refl)

-- Pump houses alone rule out a partner. "another chamber of the leaf rules out a partner just as a kept pump house does": (21, 0) is behind the chamber at (20, 0). [L4]
abbrev pumps_alone : (ℕ → Spot) → ℕ → ℕ → List ℕ → Bool
pumps_alone q i k b = some_b 2 (λ p. kept b (slot 1 k p) && drops (q k) (spot_of beyond p) (spot_of beyond i))

pub pumps_rule_wrong : (pumps_alone ends 0 0 (no_bits 16) ≡ false) × (ruled_out ends 2 1 beyond 2 (λ p. drops (ends 0) p (spot_of beyond 0)) 0 (no_bits 16) ≡ true)
unfolding leaf_kept leaf_visit leaf_take skips weigh ruled_out walk_all walk in_turn no_bits kept with bit_at digit all_b level_of first_of count_of box_of side_of spot_of order_of num drops drops_box blocks same_spot in_box
pumps_rule_wrong = (refl, refl)

-- A chamber at q's own place rules out a partner, as before request 3. "The same holds for leaf runs and their second rule." [O5]
abbrev one_spot : ℕ → Spot
one_spot k = spot (pos 0) (pos 0)

abbrev old_rule : (ℕ → Spot) → ℕ → ℕ → ℕ → Bool
old_rule q h k i = behind (q k) (q h) (spot_of beyond i)

pub same_spot_rules_wrong :
    (old_rule one_spot 1 0 0 ≡ true) × (ruled_out one_spot 2 1 beyond 2 (λ p. drops (one_spot 0) p (spot_of beyond 0)) 0 (no_bits 16) ≡ false)
unfolding leaf_kept leaf_visit leaf_take skips weigh ruled_out walk_all walk in_turn no_bits kept with bit_at digit all_b level_of first_of count_of box_of side_of spot_of order_of num drops drops_box blocks same_spot in_box
same_spot_rules_wrong = (refl, refl)

-- ---- the count

-- A walk of P for each chamber. "one walk of P serves all points of the leaf". [L3]
abbrev walk_each : List ℤ → List ℤ → ℕ → ℕ
walk_each P Q v = sum_over (λ k. (leaf_kept (λ h. chamber_spot Q v k) 1 1 P).opened) 0 (count_of Q (points Q) v)

pub walk_each_wrong :
    (walk_each pump_sheet chamber_sheet 0 ≡ 2) × ((leaf_kept (chamber_spot chamber_sheet 0) (count_of chamber_sheet 2 0) 1 pump_sheet).opened ≡ 1)
unfolding sum_over chamber_spot chamber_at leaf_kept leaf_visit leaf_take skips weigh ruled_out walk_all walk in_turn no_bits kept with bit_at digit all_b level_of first_of count_of box_of side_of spot_of order_of num drops drops_box blocks same_spot in_box
walk_each_wrong = (refl, refl)

-- The walk of P alone. "Its count is that walk's opened nodes plus those of each kept partner's ring walk." [L7]
abbrev walk_alone : List ℤ → List ℤ → ℕ → ℕ
walk_alone P Q v = (leaf_kept (chamber_spot Q v) (count_of Q (points Q) v) 1 P).opened

pub walk_alone_wrong : (walk_alone pump_sheet chamber_sheet 0 ≡ 1) × (leaf_opened 1 pump_sheet chamber_sheet 0 ≡ 7)
unfolding leaf_opened sum_over chamber_spot chamber_at pair_walk_by ring_walk ring_on ring_visit ring_take meet enter walk_all walk in_turn level_of first_of count_of box_of side_of spot_of order_of num blocks same_spot far side_in inside leaf_kept leaf_visit leaf_take skips weigh ruled_out no_bits kept with bit_at digit all_b drops drops_box in_box
walk_alone_wrong = (refl, refl)
