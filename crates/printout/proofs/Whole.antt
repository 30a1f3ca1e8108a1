-- The chambers' lines, one after the other, are the lines of the list: what `put_chamber` puts at each turn of `list_pairs`, and then the last line, is the
-- listing. Assumes nothing.
use mathlib.Core.Path.{◌≡◌, refl, sym, ap, ◌∙◌}
use mathlib.Core.List.{List, ◌++◌}
use Prim.Native.Nat.{ℕ, zero, suc, ◌+◌}
use lib.IntN.{ℤ}
use lib.ListN.{length}
use Rattle.plane.specs.Profile.{circle}
use Rattle.plane.specs.Point.{Point}
use Rattle.sheet.specs.declared.Size.{Size}
use Rattle.sheet.specs.Places.{points_of}
use Rattle.list.specs.Rows.{rows, list_by}
use Rattle.list.specs.RingList.{ring_pair, pair_at, ring_list_by}
use Rattle.text.specs.Text.{end_text}
use Rattle.printout.specs.Listing.{lines_of, ring_row, chambers_text, listing_of}
use Rattle.printout.specs.Outcome.{Both, pairs_of, sheets_outcome, printed}
use Rattle.printout.proofs.LineLaws.{lines_append}
use Rattle.printout.proofs.OutcomeLaws.{printout_listed}

-- the lines of some chambers are the lines of their pairs
chambers_lines : (P Q : List Point) (k j : ℕ) → chambers_text P Q k j ≡ lines_of P Q (rows (ring_pair P Q) (pair_at P Q) (length P) k j)
unfolding chambers_text lines_of rows
chambers_lines P Q zero j = refl
chambers_lines P Q (suc k) j =
    ap (λ (t : List ℕ). lines_of P Q (ring_row P Q j) ++ t) (chambers_lines P Q k (j + 1))
    ∙ sym (lines_append P Q (ring_row P Q j) (rows (ring_pair P Q) (pair_at P Q) (length P) k (j + 1)))

-- those of all chambers, and the last line, are the listing
pub whole_listing : (P Q : List Point) → chambers_text P Q (length Q) 0 ++ end_text (length (ring_list_by circle P Q)) ≡ listing_of P Q
unfolding listing_of ring_list_by list_by
whole_listing P Q = ap (λ (t : List ℕ). t ++ end_text (length (ring_list_by circle P Q))) (chambers_lines P Q (length Q) 0)

-- so that is what stands on standard output
pub whole_printed : {P Q : List ℤ} {hp hq : Size} → Both P hp Q hq
    → printed P Q (sheets_outcome P Q) ≡ chambers_text (points_of P) (points_of Q) (length (points_of Q)) 0 ++ end_text (length (pairs_of P Q))
unfolding printed
whole_printed {P} {Q} b = ap (printed P Q) (sym (printout_listed P Q (length (pairs_of P Q)) b.q_no b.p_no refl)) ∙ sym (whole_listing (points_of P) (points_of Q))
