-- What an opened view shows: its number, which words it covers and where they stand, and its counts.
use Rattle.std.specs.Prelude.{List, [], ℕ, ℤ}
use Rattle.std.specs.Borrow.{Bor}
use Rattle.words.specs.First.{answer}
use Rattle.sheet.specs.Layout.{points, nodes}
use Rattle.sheet.specs.Open.{sheet_no}
use Rattle.view.specs.declared.Opened.{Opened}

-- `start` is the place in memory of the first word [S27]
pub record Shown : Type 0 where
  pub number : ℕ
  pub start : ℕ × ℕ
  pub covers : List ℤ
  pub n : ℕ
  pub m : ℕ

abbrev pub shown : Opened → Shown
shown o = record { number = o.number; start = o.sheet.words.ref_ptr; covers = o.sheet.words.now; n = o.sheet.n; m = o.sheet.m }

-- "An opened sheet is read where the caller keeps its words, with no copy made. A view says which words it covers": from the caller's own first word, all
-- that are handed in, which are exactly the sheet's, with the sheet's counts. Refused, "a view there covers no words", and zeros stand beside it. [S26, S27, N5]
unfoldable pub open_of : Bor (List ℤ) → Shown
open_of s =
    answer (sheet_no s.now) (record { number = 0; start = s.ref_ptr; covers = s.now; n = points s.now; m = nodes s.now })
    (λ k. record { number = k; start = s.ref_ptr; covers = []; n = 0; m = 0 })
