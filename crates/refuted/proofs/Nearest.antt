-- Wrong readings of the walk that goes nearest first, and of its two calls.
use mathlib.Core.Path.{◌≡◌, refl}
use mathlib.Core.Bool.{Bool, true, false, ◌&&◌, ◌||◌}
use mathlib.Core.List.{List, [], ◌∷◌}
use Prim.Native.Nat.{ℕ, ◌+◌}
use lib.Dec.{eqb, leb, ltb}
use lib.IntN.{ℤ, pos}
use lib.ListN.{length, replicate}
use Rattle.words.specs.Word.{num, eq_z, within, before as word_before, is_below, min_z, max_z}
use Rattle.words.specs.All.{all_b, first_b, tab}
use Rattle.words.specs.First.{given, first, answer}
use Rattle.words.specs.Range.{id_word, edition_word, coord_word}
use Rattle.plane.specs.declared.Spot.{Spot}
use Rattle.plane.specs.Rule.{spot, same_spot, in_box, blocks, drops, drops_box}
use Rattle.plane.specs.Point.{spot_at}
use Rattle.sheet.specs.Limits.{form1, limits_of}
use Rattle.sheet.specs.Layout.{points, nodes, counts_ok, root_word, layout_ok, trailer_no}
use Rattle.sheet.specs.Points.{fields_ok, rises_ok, point_ok, points_ok}
use Rattle.sheet.specs.Order.{order_of, rank_of, place_ok, order_ok}
use Rattle.sheet.specs.Nodes.{level_of, first_of, count_of, same_level, due_next, due_of, run_ok, is_last, end_ok, node_rule, node_ok, table_ok, nodes_ok}
use Rattle.sheet.specs.Boxes.{side_of, coord_of, better, best, tight_side, tight_ok}
use Rattle.sheet.specs.Open.{body_no, open_no}
use Rattle.sheet.specs.Places.{spot_of, box_of, points_of}
use Rattle.sheet.specs.Find.{position_of}
use Rattle.bits.specs.Set.{digit, at as bit_at, kept, with, none, words_for, some, wiped}
use Rattle.list.specs.Pages.{size_no}
use Rattle.list.specs.RingList.{unblocked, ring_pair_by, ring_pair}
use Rattle.walk.specs.Walk.{in_turn}
use Rattle.walk.specs.FilterWalk.{Kept, so_far, dropped, shut, consider}
use Rattle.outward.specs.Waiting.{point_entry, box_entry, covered, distance, before, insert, with_covered}
use Rattle.outward.specs.NearWalk.{root_waits, near_steps, near_all, near_order, near_kept, near_keeps}
use Rattle.ring.specs.Lent.{need, bits_no, wiped_by}
use Rattle.ring.specs.Partners.{id_no}
use Rattle.nearest.specs.Nearest.{wait_no, nearest_no, near_filter_no, waited_by}
use Rattle.refuted.proofs.Cases.{pumps, chambers, pump_sheet, chamber_sheet, line}

-- ---- the order

-- Points before boxes, on a tie. "on a tie, boxes before points": the point at (0, 0) and its leaf's box are as near to (0, 0). [G2]
abbrev points_first : List ℤ → Spot → ℕ → ℕ → Bool
points_first w q e f = ltb (distance w 2 1 q e) (distance w 2 1 q f) || (eqb (distance w 2 1 q e) (distance w 2 1 q f) && ltb f e)

abbrev origin : Spot
origin = spot (pos 0) (pos 0)

pub points_first_wrong :
    (points_first pump_sheet origin (point_entry 1 0) (box_entry 0) ≡ true) × (before pump_sheet 2 1 origin (point_entry 1 0) (box_entry 0) ≡ false)
unfolding before distance box_of side_of spot_of num
points_first_wrong = (refl, refl)

-- The higher position, on a tie. "then lower position or node": (4, 0) and (6, 0) are as near to (5, 0). [G2]
abbrev between : List ℤ
between = line 1 4 2 6 4 6

pub higher_first_wrong :
    (points_first between (spot (pos 5) (pos 0)) (point_entry 1 1) (point_entry 1 0) ≡ true)
    × (before between 2 1 (spot (pos 5) (pos 0)) (point_entry 1 1) (point_entry 1 0) ≡ false)
unfolding before distance box_of side_of spot_of num
higher_first_wrong = (refl, refl)

-- By position. "the box or point with the least squared distance to q first". [G1, G3]
abbrev by_position : List ℤ → List ℕ
by_position w = tab (points w) (λ i. i)

pub near_by_position_wrong : (by_position pump_sheet ≡ 0 ∷ 1 ∷ []) × (near_order pump_sheet (spot (pos 9) (pos 0)) ≡ 1 ∷ 0 ∷ [])
unfolding near_order tab near_all near_steps root_waits with_covered insert before distance covered in_turn level_of first_of count_of box_of side_of spot_of order_of num
near_by_position_wrong = (refl, refl)

-- ---- the filter

-- No box is opened. "Pairs made with its kept set equal the list": chamber 5 and pump house 1 are one, and it is not kept. [G4, G5]
abbrev never_opened : List ℤ → Spot → Kept
never_opened w q = near_all w 2 1 q (λ j k. true) (λ k. so_far k.bits (k.opened + 1)) (λ i k. so_far (consider w 2 q i k.bits) k.opened) (so_far (none 1) 0)

pub near_skipped_wrong :
    (kept (never_opened pump_sheet (spot_at chambers 0)).bits 0 ≡ false)
    × (near_keeps 1 pump_sheet (spot_at chambers 0) 0 ≡ true)
    × (ring_pair pumps chambers 0 0 ≡ true)
unfolding near_kept near_all near_steps root_waits with_covered insert before distance covered in_turn level_of first_of count_of box_of side_of spot_of order_of num consider dropped shut some none kept with bit_at digit drops drops_box blocks same_spot in_box ring_pair_by unblocked all_b
near_skipped_wrong = (refl, refl, refl)

-- ---- the lent numbers

-- One number too few. "a lent slice of at least n + m entries": two points and a node need three. [G6, G9]
abbrev one_less : List ℤ → ℕ → ℕ
one_less P len = given (ltb (len + 1) (points P + nodes P)) 25

pub one_too_few_wrong : (one_less pump_sheet 2 ≡ 0) × (wait_no pump_sheet 2 ≡ 25)
unfolding wait_no given num
one_too_few_wrong = (refl, refl)

-- One more than is needed. Exactly n + m are enough. [G6, G9]
abbrev one_more : List ℤ → ℕ → ℕ
one_more P len = given (leb len (points P + nodes P)) 25

pub just_enough_wrong : (one_more pump_sheet 3 ≡ 25) × (wait_no pump_sheet 3 ≡ 0)
unfolding wait_no given num
just_enough_wrong = (refl, refl)

abbrev lent : List ℕ
lent = 9 ∷ 9 ∷ 9 ∷ 9 ∷ []

-- All are zero after an answer. "the first n + m zero after an answer, the rest untouched". [G7, G8]
abbrev all_zero : List ℕ → List ℕ
all_zero ws = replicate (length ws) 0

pub rest_wiped_wrong : (all_zero lent ≡ 0 ∷ 0 ∷ 0 ∷ 0 ∷ []) × (waited_by 0 pump_sheet lent ≡ 0 ∷ 0 ∷ 0 ∷ 9 ∷ [])
unfolding waited_by wiped_by answer wiped num
rest_wiped_wrong = (refl, refl)

-- A refused call writes. A refusal "leaves lent memory [..] as they stood". [G11]
pub refused_writes_wrong : (wiped 1 lent ≡ 0 ∷ 9 ∷ 9 ∷ 9 ∷ []) × (waited_by 25 pump_sheet lent ≡ lent)
unfolding waited_by wiped_by answer wiped
refused_writes_wrong = (refl, refl)

-- ---- numbers of refusal

-- The size before the id, and the slice before the size. "Refusals: 20, 10 [..], then 25". [G10]
abbrev size_first : List ℤ → ℕ → ℕ → ℕ
size_first Q id size = first (size_no size ∷ id_no (points_of Q) id ∷ [])

pub size_first_wrong : (size_first chamber_sheet 1 0 ≡ 10) × (nearest_no pump_sheet chamber_sheet 1 0 0 ≡ 20)
unfolding nearest_no size_no id_no position_of first_b points_of tab spot_of open_no body_no trailer_no first given counts_ok within edition_word layout_ok root_word points_ok point_ok fields_ok rises_ok id_word coord_word word_before order_ok place_ok is_below rank_of order_of nodes_ok table_ok node_ok node_rule run_ok end_ok is_last same_level due_of due_next tight_ok tight_side best better min_z max_z coord_of side_of level_of first_of count_of eq_z num all_b limits_of form1
size_first_wrong = (refl, refl)

abbrev slice_first : List ℤ → ℕ → ℕ → ℕ
slice_first P size len = first (wait_no P len ∷ size_no size ∷ [])

-- [G10]
pub slice_first_wrong : (slice_first pump_sheet 0 0 ≡ 25) × (nearest_no pump_sheet chamber_sheet 5 0 0 ≡ 10)
unfolding nearest_no size_no id_no position_of first_b points_of tab spot_of wait_no open_no body_no trailer_no first given counts_ok within edition_word layout_ok root_word points_ok point_ok fields_ok rises_ok id_word coord_word word_before order_ok place_ok is_below rank_of order_of nodes_ok table_ok node_ok node_rule run_ok end_ok is_last same_level due_of due_next tight_ok tight_side best better min_z max_z coord_of side_of level_of first_of count_of eq_z num all_b limits_of form1
slice_first_wrong = (refl, refl)

-- 25 before 24. "24 bit slice too short, after all others but 16 and 25": with neither words nor numbers lent it is 24. [Y15]
abbrev numbers_first : List ℤ → ℕ → ℕ → ℕ
numbers_first P bits len = first (wait_no P len ∷ bits_no (need P) bits ∷ [])

pub numbers_before_bits_wrong : (numbers_first pump_sheet 0 0 ≡ 25) × (near_filter_no pump_sheet chamber_sheet 5 0 0 ≡ 24)
unfolding near_filter_no bits_no words_for id_no position_of first_b points_of tab spot_of wait_no open_no body_no trailer_no first given counts_ok within edition_word layout_ok root_word points_ok point_ok fields_ok rises_ok id_word coord_word word_before order_ok place_ok is_below rank_of order_of nodes_ok table_ok node_ok node_rule run_ok end_ok is_last same_level due_of due_next tight_ok tight_side best better min_z max_z coord_of side_of level_of first_of count_of eq_z num all_b limits_of form1
numbers_before_bits_wrong = (refl, refl)
