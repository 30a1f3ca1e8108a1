-- Wrong readings of the listing program: which sheets it takes, and which it opens first.
use mathlib.Core.Path.{◌≡◌, refl}
use mathlib.Core.List.{List, []}
use lib.IntN.{ℤ}
use lib.ListN.{length}
use Rattle.words.specs.Word.{num, eq_z, within, before, is_below, min_z, max_z}
use Rattle.words.specs.All.{all_b, tab}
use Rattle.words.specs.First.{given, first, answer}
use Rattle.words.specs.Range.{id_word, edition_word, coord_word}
use Rattle.plane.specs.Rule.{same_spot, blocks}
use Rattle.sheet.specs.Limits.{form1, form2, limits_of}
use Rattle.sheet.specs.Layout.{counts_ok, root_word, layout_ok, trailer_no}
use Rattle.sheet.specs.Points.{fields_ok, rises_ok, point_ok, points_ok}
use Rattle.sheet.specs.Order.{order_of, rank_of, place_ok, order_ok}
use Rattle.sheet.specs.Nodes.{level_of, first_of, count_of, same_level, due_next, due_of, run_ok, is_last, end_ok, node_rule, node_ok, table_ok, nodes_ok}
use Rattle.sheet.specs.Boxes.{side_of, coord_of, better, best, tight_side, tight_ok}
use Rattle.sheet.specs.Open.{body_no, open_no, sheet_no}
use Rattle.sheet.specs.Places.{spot_of, points_of}
use Rattle.list.specs.Rows.{row, rows, list_by}
use Rattle.list.specs.RingList.{unblocked, ring_pair_by, ring_list_by}
use Rattle.printout.specs.Outcome.{pairs_of, first_no, sheets_outcome}
use Rattle.printout.specs.declared.Outcome.{Outcome}
use Rattle.printout.specs.declared.Outcome.TheVariants.{BadQ, BadP, Listed}
use Rattle.refuted.proofs.Cases.{wide_pumps, chamber_sheet, no_form}

-- The listing opens either form, as every call does. "takes form 1, and gives 2 for a sheet of form 2": the document's pump houses in form 2 are a sheet that opens. [Y16]
abbrev either_form : List ℤ → List ℤ → Outcome
either_form P Q = answer (sheet_no Q) (answer (sheet_no P) (Listed (length (pairs_of P Q))) BadP) BadQ

pub either_form_wrong : (either_form wide_pumps chamber_sheet ≡ Listed 3) × (sheets_outcome wide_pumps chamber_sheet ≡ BadP 2)
unfolding sheets_outcome answer open_no body_no trailer_no first given counts_ok within edition_word layout_ok root_word points_ok point_ok fields_ok rises_ok id_word coord_word before order_ok place_ok is_below rank_of order_of nodes_ok table_ok node_ok node_rule run_ok end_ok is_last same_level due_of due_next tight_ok tight_side best better min_z max_z coord_of side_of level_of first_of count_of eq_z num all_b limits_of form1 form2 ring_list_by list_by rows row ring_pair_by unblocked blocks same_spot points_of tab spot_of
either_form_wrong = (refl, refl)

-- P before Q, as every call has it. "opens Q before P": P has a form number that is none, and Q has under 6 words. [X13]
abbrev pumps_first : List ℤ → List ℤ → Outcome
pumps_first P Q = answer (first_no P) (answer (first_no Q) (Listed (length (pairs_of P Q))) BadQ) BadP

pub listing_pumps_first_wrong : (pumps_first no_form [] ≡ BadP 2) × (sheets_outcome no_form [] ≡ BadQ 1)
unfolding sheets_outcome answer open_no trailer_no first given eq_z form1
listing_pumps_first_wrong = (refl, refl)
