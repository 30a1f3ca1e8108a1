-- Wrong readings of words in files, of the sheet and of the packer.
use mathlib.Core.Path.{◌≡◌, refl, ap}
use mathlib.Core.Bool.{Bool, true, cond, not, ◌&&◌, true≢false}
use mathlib.Core.List.{List, [], ◌∷◌}
use Prim.Native.Nat.{ℕ, ◌+◌, ◌*◌}
use lib.Dec.{leb, ltb}
use lib.IntN.{ℤ, pos, neg_ℤ}
use lib.Signed.{le_z}
use lib.ListN.{length, take, get_or, replicate}
use mir.Syntax.{w32}
use mir.Val.{to_z}
use Rattle.words.specs.Word.{eq_z, within, before, is_below, min_z, max_z, num}
use Rattle.words.specs.All.{all_b, first_b, tab}
use Rattle.words.specs.First.{given, first, answer}
use Rattle.words.specs.Range.{id_word, edition_word, coord_word, edition_ok}
use Rattle.words.specs.Bytes.{spell, word}
use Rattle.sheet.specs.declared.Limits.{Limits}
use Rattle.sheet.specs.Limits.{form1, form2, limits_of}
use Rattle.sheet.specs.Layout.{points, nodes, span, root, counts_ok, root_word, layout_ok, trailer_no}
use Rattle.sheet.specs.Points.{id_at, fields_ok, rises_ok, point_ok, points_ok}
use Rattle.sheet.specs.Order.{order_of, rank_of, place_ok, order_ok}
use Rattle.sheet.specs.Nodes.{level_of, first_of, count_of, same_level, due_next, due_of, run_ok, is_last, end_ok, node_rule, node_ok, table_ok, nodes_ok}
use Rattle.sheet.specs.Boxes.{side_of, coord_of, better, best, tight_side, tight_ok}
use Rattle.sheet.specs.Open.{body_no, open_no, sheet_no}
use Rattle.pack.specs.Order.{place_in, list_ok, order_list_ok}
use Rattle.pack.specs.Tree.{up16, width, ground_level, above, one_left, nodes_from, nodes_for}
use Rattle.pack.specs.Packed.{flat_word, body_word, pack_word, sheet_size, packed, trailer_word}
use Rattle.pack.specs.Pack.{shape_ok, form_ok, range_ok, within_no, pack_no, pack_out, length_for}
use Rattle.refuted.proofs.Cases.{words, pump_sheet}

-- ---- words in files

-- The highest byte first. "little-endian two's complement". [S1]
abbrev big_endian : ℕ → ℕ → ℕ → ℕ → ℤ
big_endian b0 b1 b2 b3 = to_z w32 (spell b3 b2 b1 b0)

pub big_endian_wrong : (big_endian 1 0 0 0 ≡ pos 16777216) × (word 1 0 0 0 ≡ pos 1)
unfolding word spell
big_endian_wrong = (refl, refl)

-- Never negative. "Signed 32-bit words". [S1]
abbrev unsigned : ℕ → ℕ → ℕ → ℕ → ℤ
unsigned b0 b1 b2 b3 = pos (spell b0 b1 b2 b3)

pub unsigned_wrong : (unsigned 255 255 255 255 ≡ pos 4294967295) × (word 255 255 255 255 ≡ neg_ℤ (pos 1))
unfolding word spell
unsigned_wrong = (refl, refl)

-- ---- the sheet

-- one point, id 1 at (x, 0), in a box from (0, 0) to (9, 0)
abbrev one : ℕ → List ℤ
one x = words (1 ∷ x ∷ 0 ∷ 0 ∷ 0 ∷ 0 ∷ 0 ∷ 1 ∷ 0 ∷ 0 ∷ 9 ∷ 0 ∷ 12 ∷ 7 ∷ 1 ∷ 1 ∷ 3 ∷ 1 ∷ [])

-- "Trusting a box that is merely large enough: rule (2) then blocks on nothing." "8 a box is not tightest." [S21, N13, V12]
abbrev large_enough : List ℤ → ℕ → ℕ → ℕ → Bool
large_enough w n j q =
    cond (ltb q 2) (le_z (side_of w n q j) (tight_side w n q (level_of w n j) j)) (le_z (tight_side w n q (level_of w n j) j) (side_of w n q j))

abbrev loose_ok : List ℤ → ℕ → ℕ → Bool
loose_ok w n m = all_b m (λ j. all_b 4 (large_enough w n j))

pub loose_box_wrong : (loose_ok (one 4) 1 1 ≡ true) × (sheet_no (one 4) ≡ 8)
unfolding open_no body_no trailer_no first given counts_ok within edition_word layout_ok root_word points_ok point_ok fields_ok rises_ok id_word coord_word order_ok place_ok is_below rank_of order_of nodes_ok table_ok node_ok node_rule run_ok end_ok is_last same_level due_of due_next tight_ok tight_side best better min_z max_z coord_of side_of level_of first_of count_of eq_z num all_b limits_of form1
loose_box_wrong = (refl, refl)

-- Words past the sheet's end. "A sheet is exactly span+6 words." [S12, N9]
abbrev at_least_span : List ℤ → Bool
at_least_span w =
    eq_z (span w) (pos (5 * points w + 7 * nodes w)) && eq_z (root w) (pos (root_word (nodes w))) && leb (5 * points w + 7 * nodes w + 6) (length w)

pub longer_than_span_wrong : (at_least_span (pos 0 ∷ pump_sheet) ≡ true) × (sheet_no (pos 0 ∷ pump_sheet) ≡ 4)
unfolding open_no trailer_no first given counts_ok within edition_word layout_ok root_word eq_z num limits_of form1
longer_than_span_wrong = (refl, refl)

-- The root word is always 7. "root (7 words back, or 0 when m is 0)": a sheet of nothing opens. [S11]
abbrev empty : ℕ → List ℤ
empty r = words (0 ∷ r ∷ 0 ∷ 0 ∷ 3 ∷ 1 ∷ [])

pub root_always_wrong : (sheet_no (empty 7) ≡ 4) × (sheet_no (empty 0) ≡ 0)
unfolding open_no body_no trailer_no first given counts_ok within edition_word layout_ok root_word points_ok order_ok nodes_ok table_ok tight_ok eq_z num all_b limits_of form1
root_always_wrong = (refl, refl)

-- Two records of one id. "Ids strictly ascending". [S3]
abbrev not_falling : List ℤ → ℕ → Bool
not_falling w i = le_z (id_at w 0) (id_at w i)

abbrev twins : List ℤ
twins = words (1 ∷ 0 ∷ 0 ∷ 1 ∷ 10 ∷ 0 ∷ 0 ∷ 1 ∷ 0 ∷ 1 ∷ 0 ∷ 0 ∷ 2 ∷ 0 ∷ 0 ∷ 10 ∷ 0 ∷ 17 ∷ 7 ∷ 2 ∷ 1 ∷ 7 ∷ 1 ∷ [])

pub same_id_wrong : (not_falling twins 1 ≡ true) × (sheet_no twins ≡ 5)
unfolding open_no body_no trailer_no first given counts_ok within edition_word layout_ok root_word points_ok point_ok fields_ok rises_ok id_word coord_word before eq_z num all_b limits_of form1
same_id_wrong = (refl, refl)

-- The order before the points. "The first that applies, in the order listed": an id of 0 and a place of 5 give 5. [N35]
abbrev order_first : List ℤ → ℕ → ℕ → ℕ
order_first w n m = first (given (not (order_ok w n)) 6 ∷ given (not (points_ok form1 w n)) 5 ∷ [])

abbrev faults : List ℤ
faults = words (0 ∷ 0 ∷ 0 ∷ 5 ∷ 0 ∷ 0 ∷ 0 ∷ 1 ∷ 0 ∷ 0 ∷ 0 ∷ 0 ∷ 12 ∷ 7 ∷ 1 ∷ 1 ∷ 3 ∷ 1 ∷ [])

pub order_first_wrong : (order_first faults 1 1 ≡ 6) × (sheet_no faults ≡ 5)
unfolding open_no body_no trailer_no first given counts_ok within edition_word layout_ok root_word points_ok point_ok fields_ok rises_ok id_word coord_word order_ok place_ok is_below rank_of eq_z num all_b limits_of form1
order_first_wrong = (refl, refl)

-- A rank that is any place. "order at rank of i is i for every i". [S8]
abbrev any_rank : List ℤ → ℕ → ℕ → Bool
any_rank w n i = ltb (order_of w n i) n && ltb (rank_of w n i) n

abbrev turned : List ℤ
turned = words (1 ∷ 0 ∷ 0 ∷ 2 ∷ 10 ∷ 0 ∷ 0 ∷ 1 ∷ 1 ∷ 0 ∷ 0 ∷ 0 ∷ 2 ∷ 0 ∷ 0 ∷ 10 ∷ 0 ∷ 17 ∷ 7 ∷ 2 ∷ 1 ∷ 7 ∷ 1 ∷ [])

pub any_rank_wrong : (all_b 2 (any_rank turned 2) ≡ true) × (sheet_no turned ≡ 6)
unfolding open_no body_no trailer_no first given counts_ok within edition_word layout_ok root_word points_ok point_ok fields_ok rises_ok id_word coord_word before order_ok place_ok is_below rank_of order_of eq_z num all_b limits_of form1
any_rank_wrong = (refl, refl)

-- A sheet of form 1 under form 2's limits. "Form 1 sheets open as before under their own limits": a coordinate of 1,000,001 gives 5. [Y1, Y2]
abbrev wide_first : Limits
wide_first = record { form = 1; points = form2.points; nodes = form2.nodes; coordinate = form2.coordinate }

abbrev outside : List ℤ
outside = words (1 ∷ 1000001 ∷ 0 ∷ 0 ∷ 0 ∷ 0 ∷ 0 ∷ 1 ∷ 1000001 ∷ 0 ∷ 1000001 ∷ 0 ∷ 12 ∷ 7 ∷ 1 ∷ 1 ∷ 3 ∷ 1 ∷ [])

pub form_wide_wrong : (open_no wide_first outside ≡ 0) × (sheet_no outside ≡ 5)
unfolding open_no body_no trailer_no first given counts_ok within edition_word layout_ok root_word points_ok point_ok fields_ok rises_ok id_word coord_word order_ok place_ok is_below rank_of order_of nodes_ok table_ok node_ok node_rule run_ok end_ok is_last same_level due_of due_next tight_ok tight_side best better min_z max_z coord_of side_of level_of first_of count_of eq_z num all_b limits_of form1 form2
form_wide_wrong = (refl, refl)

-- ---- the packer

-- "It makes nodes of 16, [..] until one node is left": with two nodes left it is not at its end. "17 gives 3". [S23, S24]
abbrev two_left : ℕ → ℕ
two_left n = width (ground_level n) + cond (leb (width (ground_level n)) 2) 0 1

pub stops_early_wrong : (two_left 17 ≡ 2) × (nodes_for 17 ≡ 3)
unfolding nodes_for nodes_from one_left width ground_level above up16
stops_early_wrong = (refl, refl)

-- "a packer that writes nothing": of one point at (4, 0), the lent words do not stay as they were. [S25, V4]
pub writes_nothing_wrong : pack_out 1 1 (words (1 ∷ 4 ∷ 0 ∷ [])) (words (0 ∷ [])) 3 (replicate 18 (pos 0)) ≡ replicate 18 (pos 0) → ⊥
unfolding pack_out pack_no within_no answer first given shape_ok form_ok range_ok edition_ok points_ok point_ok fields_ok rises_ok id_word coord_word within order_list_ok list_ok is_below place_in first_b sheet_size nodes_for nodes_from one_left width ground_level above up16 eq_z all_b limits_of form1 packed tab pack_word body_word flat_word
writes_nothing_wrong e = true≢false (ap (λ (l : List ℤ). eq_z (get_or l 0 (pos 0)) (pos 1)) e)

-- As much of the sheet as there is room for. Refused by 17, the call "leaves lent memory [..] as they stood". [N3, N17]
abbrev written : List ℤ → List ℤ → ℕ → ℕ → List ℤ → List ℤ
written p o n ed out = take (length out) (packed 1 p o n ed)

pub touches_refused_wrong :
    (get_or (written (words (1 ∷ 4 ∷ 0 ∷ [])) (words (0 ∷ [])) 1 3 (replicate 17 (pos 0))) 0 (pos 0) ≡ pos 1)
    × (pack_out 1 1 (words (1 ∷ 4 ∷ 0 ∷ [])) (words (0 ∷ [])) 3 (replicate 17 (pos 0)) ≡ replicate 17 (pos 0))
unfolding pack_out pack_no within_no answer first given shape_ok form_ok range_ok edition_ok points_ok point_ok fields_ok rises_ok id_word coord_word within order_list_ok list_ok is_below place_in first_b sheet_size nodes_for nodes_from one_left width ground_level above up16 eq_z all_b limits_of form1 packed tab pack_word body_word flat_word
touches_refused_wrong = (refl, refl)

-- All sheets say form 1, whatever form is asked for: the last word of a sheet of form 2 is 2. [Y4]
abbrev always_one : ℕ → List ℤ → List ℤ → ℕ → ℕ → List ℤ
always_one form p o n ed = packed 1 p o n ed

pub always_one_wrong :
    (get_or (always_one 2 (words (1 ∷ 4 ∷ 0 ∷ [])) (words (0 ∷ [])) 1 3) 17 (pos 0) ≡ pos 1)
    × (get_or (pack_out 2 1 (words (1 ∷ 4 ∷ 0 ∷ [])) (words (0 ∷ [])) 3 (replicate 18 (pos 0))) 17 (pos 0) ≡ pos 2)
unfolding pack_out pack_no within_no answer first given shape_ok form_ok range_ok edition_ok points_ok point_ok fields_ok rises_ok id_word coord_word within order_list_ok list_ok is_below place_in first_b sheet_size nodes_for nodes_from one_left width ground_level above up16 eq_z all_b limits_of form1 form2 packed tab pack_word trailer_word
always_one_wrong = (refl, refl)

-- The length of a sheet without its ranks: a caller would lend n words too few. "exactly span+6 words". [S29]
abbrev ranks_forgotten : ℕ → ℕ
ranks_forgotten n = 4 * n + 7 * nodes_for n + 6

pub ranks_forgotten_wrong : (ranks_forgotten 2 ≡ 21) × (length_for 2 ≡ 23)
unfolding length_for sheet_size nodes_for nodes_from one_left width ground_level above up16
ranks_forgotten_wrong = (refl, refl)

-- 2 before 18. "2 for a form other than 1 or 2, in pack after 18": of form 3 and with no point words for one point it is 18. [Y4]
abbrev form_first : ℕ → ℕ → List ℤ → List ℤ → ℕ
form_first form n p o = first (given (not (form_ok form)) 2 ∷ given (not (shape_ok n p o)) 18 ∷ [])

pub form_before_shape_wrong : (form_first 3 1 [] [] ≡ 2) × (pack_no 3 1 [] [] 3 18 ≡ 18)
unfolding pack_no first given shape_ok form_ok
form_before_shape_wrong = (refl, refl)
