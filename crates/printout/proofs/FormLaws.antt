-- Sheets of form 1, which alone the listing takes: such a sheet opens, and has at most 1,000 points. A sheet of form 2 is refused by 2. Assumes nothing.
use mathlib.Core.Path.{◌≡◌, ◌∙◌}
use mathlib.Core.Bool.{false}
use mathlib.Core.List.{List}
use Prim.Native.Nat.{◌≤◌}
use borrow.Author.Tests.{le-ltb}
use lib.Dec.{ltb}
use lib.IntN.{ℤ, pos}
use lib.ListN.{length}
use Rattle.words.specs.First.{given, first}
use Rattle.words.specs.Word.{eq_z}
use Rattle.words.proofs.FirstLaws.{none_applies, given_held}
use Rattle.words.proofs.Signs.{is_word}
use Rattle.sheet.specs.Limits.{form1}
use Rattle.sheet.specs.Layout.{form, points, trailer_no}
use Rattle.sheet.specs.Open.{open_no, sheet_no}
use Rattle.sheet.proofs.SheetLaws.{open_trailer, form1_as_before}
use Rattle.printout.specs.Outcome.{first_no}

-- its form word is 1
first_form : (w : List ℤ) → first_no w ≡ 0 → form w ≡ pos 1
unfolding open_no trailer_no form1
first_form w e = is_word (form w) 1 (given_held _ ((none_applies _).0 ((none_applies _).0 e 0) 1))

-- so it opens
pub listed_first : (w : List ℤ) → first_no w ≡ 0 → sheet_no w ≡ 0
listed_first w e = form1_as_before w (first_form w e) ∙ e

-- it has at most 1,000 points
pub few_points : (w : List ℤ) → first_no w ≡ 0 → points w ≤ 1000
unfolding form1
few_points w e = (open_trailer form1 w e).n_le

-- "gives 2 for a sheet of form 2": for any words that end in this form's number, of six or more as every sheet has, also for a sheet that opens elsewhere
pub second_refused : (w : List ℤ) → 6 ≤ length w → form w ≡ pos 2 → first_no w ≡ 2
unfolding open_no trailer_no form1 first given eq_z
second_refused w long two = let short : ltb (length w) 6 ≡ false = le-ltb (length w) 6 long in rw (short, two)
