-- Wrong answers of the calls on plain slices: the check, the point reader, the ring walk, the position of an id, and slots of an array.
use Rattle.std.specs.Prelude.{Result, Ok}
use mathlib.Core.Path.{◌≡◌, refl}
use mathlib.Core.Bool.{Bool, true, false}
use mathlib.Core.List.{List}
use Prim.Native.Nat.{ℕ}
use lib.Dec.{ltb}
use lib.IntN.{ℤ, pos}
use lib.ListN.{length}
use Rattle.words.specs.Word.{num, eq_z, within, before, is_below, min_z, max_z}
use Rattle.words.specs.All.{all_b, first_b, tab}
use Rattle.words.specs.First.{given, first, answer}
use Rattle.words.specs.Range.{id_word, edition_word, coord_word}
use Rattle.plane.specs.Profile.{profile_of}
use Rattle.sheet.specs.Limits.{form1, limits_of}
use Rattle.sheet.specs.Layout.{points, nodes, counts_ok, root_word, layout_ok, trailer_no}
use Rattle.sheet.specs.Points.{id_at, x_at, y_at, fields_ok, rises_ok, point_ok, points_ok}
use Rattle.sheet.specs.Order.{order_of, rank_of, place_ok, order_ok}
use Rattle.sheet.specs.Nodes.{level_of, first_of, count_of, same_level, due_next, due_of, run_ok, is_last, end_ok, node_rule, node_ok, table_ok, nodes_ok}
use Rattle.sheet.specs.Boxes.{side_of, coord_of, better, best, tight_side, tight_ok}
use Rattle.sheet.specs.Open.{body_no, open_no, sheet_no}
use Rattle.sheet.specs.Places.{spot_of, points_of}
use Rattle.sheet.specs.Find.{position_of}
use Rattle.list.specs.Lent.{lent_of}
use Rattle.walk.specs.declared.Hit.TheVariants.{Clear}
use Rattle.walk.specs.RingWalk.{pair_walk_by}
use Rattle.ring.specs.declared.Asset.{Asset}
use Rattle.ring.specs.declared.Head.{Head}
use Rattle.ring.specs.declared.Placed.{Placed}
use Rattle.ring.specs.Numbers.{position_no, ring_no}
use Rattle.ring.specs.Answers.{head_of, asset_of, walked_clear, walked}
use Rattle.ring.specs.Partners.{id_no}
use Rattle.ring.specs.Position.{place_no, place_given, place_refused, placed}
use Rattle.refuted.proofs.Cases.{chamber_sheet, no_form}
use Rattle.walk.specs.declared.Answer.{Answer}

-- ---- the check

-- An opened sheet's counts exchanged: its nodes for its points. The document's chambers are two points in one leaf. [S10, S26]
abbrev counts_exchanged : List ℤ → Head
counts_exchanged w = answer (sheet_no w) (record { number = 0; len = length w; n = nodes w; m = points w }) (λ k. record { number = k; len = 0; n = 0; m = 0 })

pub counts_exchanged_wrong : ((counts_exchanged chamber_sheet).n ≡ 1) × ((head_of chamber_sheet).n ≡ 2)
unfolding head_of answer open_no body_no trailer_no first given counts_ok within edition_word layout_ok root_word points_ok point_ok fields_ok rises_ok id_word coord_word before order_ok place_ok is_below rank_of order_of nodes_ok table_ok node_ok node_rule run_ok end_ok is_last same_level due_of due_next tight_ok tight_side best better min_z max_z coord_of side_of level_of first_of count_of eq_z num all_b limits_of form1
counts_exchanged_wrong = (refl, refl)

-- Refused words are covered all the same: a view of them would show them. "Every refusal gives only its number". [S27, N5]
abbrev refused_covers : List ℤ → Head
refused_covers w = answer (sheet_no w) (head_of w) (λ k. record { number = k; len = length w; n = 0; m = 0 })

pub refused_covers_wrong : ((refused_covers no_form).len ≡ 6) × ((head_of no_form).len ≡ 0)
unfolding head_of answer open_no trailer_no first given eq_z limits_of form1
refused_covers_wrong = (refl, refl)

-- ---- the point reader

-- y for x. The chamber at the first position stands at (4, 0). [S2]
abbrev axes_exchanged : List ℤ → ℕ → Asset
axes_exchanged w i = record { id = num (id_at w i); x = y_at w i; y = x_at w i }

pub axes_exchanged_wrong : ((axes_exchanged chamber_sheet 0).x ≡ pos 0) × ((asset_of chamber_sheet 0).x ≡ pos 4)
unfolding asset_of num
axes_exchanged_wrong = (refl, refl)

-- Position n is accepted: what stands there is no point. "a position not below its sheet's n". [N21]
abbrev up_to_count : List ℤ → ℕ → ℕ
up_to_count w i = given (ltb (points w) i) 9

pub position_n_wrong : (up_to_count chamber_sheet 2 ≡ 0) × (position_no chamber_sheet 2 ≡ 9)
unfolding position_no given num
position_n_wrong = (refl, refl)

-- ---- the ring walk

-- A walk over words that are no sheet says that the pair is clear. [W17, N2]
abbrev refused_clear : List ℤ → List ℤ → ℕ → ℕ → Bool → Result Answer ℕ
refused_clear P Q j i g = answer (ring_no P Q j i g) (Ok (pair_walk_by (profile_of g) P Q j i)) (λ k. Ok (record { hit = Clear; opened = 0 }))

pub refused_clear_wrong : (walked_clear (refused_clear no_form chamber_sheet 0 0 false) ≡ true) × (walked_clear (walked no_form chamber_sheet 0 0 false) ≡ false)
unfolding walked ring_no answer open_no trailer_no first given eq_z limits_of form1
refused_clear_wrong = (refl, refl)

-- ---- the position of an id

-- An id that no record has is given the position n. "20 unknown q id", of either sheet. [S30]
abbrev unknown_placed : List ℤ → ℕ → Placed
unknown_placed w id = answer (sheet_no w) (place_given w id) place_refused

pub unknown_placed_wrong : ((unknown_placed chamber_sheet 7).number ≡ 0) × ((placed chamber_sheet 7).number ≡ 20)
unfolding placed place_no place_given place_refused id_no position_of first_b points_of tab spot_of answer open_no body_no trailer_no first given counts_ok within edition_word layout_ok root_word points_ok point_ok fields_ok rises_ok id_word coord_word before order_ok place_ok is_below rank_of order_of nodes_ok table_ok node_ok node_rule run_ok end_ok is_last same_level due_of due_next tight_ok tight_side best better min_z max_z coord_of side_of level_of first_of count_of eq_z num all_b limits_of form1
unknown_placed_wrong = (refl, refl)

-- ---- slots of an array

-- None of an array's slots is lent, however many are asked for. [K3, L1]
abbrev none_lent : ℕ → ℕ → ℕ
none_lent slots len = lent_of 0 len

pub lends_none_wrong : ((none_lent 64 3 ≡ 0) × (lent_of 64 3 ≡ 3)) × ((none_lent 256 3 ≡ 0) × (lent_of 256 3 ≡ 3))
unfolding lent_of
lends_none_wrong = ((refl, refl), (refl, refl))
