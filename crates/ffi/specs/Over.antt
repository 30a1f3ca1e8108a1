-- What crosses to C: of each answer that is an enum, the struct of numbers, its number of refusal first; and of a check, with what the sheet says of itself.
-- "Every refusal gives only its number [..]. An array or number in a refused answer is all zero."
-- The answers of filter walk, page, of the question for partners, of leaf runs, of the shortest, of the nearest, of making forms and of the book's take are structs of numbers already, and
-- cross as they are.
use Rattle.std.specs.Prelude.{true, false, List, ℕ, ℤ, pos, ◌+ℤ◌, Float, length, Result, Ok, Err}
use Rattle.std.specs.Float.{binary64}
use Rattle.std.specs.Float.Ieee.{of_bits}
use Rattle.words.specs.Word.{num}
use Rattle.words.specs.First.{answer}
use Rattle.sheet.specs.Layout.{points, nodes, edition, form}
use Rattle.sheet.specs.Open.{sheet_no}
use Rattle.ring.specs.Page.{no_terms}
use Rattle.list.specs.Pairs.{start}
use Rattle.walk.specs.declared.Hit.{Hit}
use Rattle.walk.specs.declared.Hit.TheVariants.{Clear, Point, Side}
use Rattle.book.specs.declared.Book.{Book}
use Rattle.book.specs.declared.Asked.{Asked}
use Rattle.depot.specs.declared.Receipt.{Receipt}
use Rattle.depot.specs.declared.Receipt.TheVariants.{Issued, Known}
use Rattle.depot.specs.declared.Depot.{Depot}
use Rattle.depot.specs.declared.Stored.{Stored}
use Rattle.marker.specs.Half.{half_of}
use Rattle.marker.specs.Mark.{mark_no}
use Rattle.ffi.specs.declared.HeadAnswer.{HeadAnswer}
use Rattle.ffi.specs.declared.PointAnswer.{PointAnswer}
use Rattle.ffi.specs.declared.WalkAnswer.{WalkAnswer}
use Rattle.ffi.specs.declared.BookAnswer.{BookAnswer}
use Rattle.ffi.specs.declared.KeyAnswer.{KeyAnswer}
use Rattle.ffi.specs.declared.StoreAnswer.{StoreAnswer}
use Rattle.ffi.specs.declared.MarkAnswer.{MarkAnswer}
use Rattle.list.specs.declared.Key.{Key}
use Rattle.marker.specs.declared.Marker.{Marker}
use Rattle.ring.specs.declared.Asset.{Asset}
use Rattle.walk.specs.declared.Answer.{Answer}

-- a check of words: 0 with the sheet's length, counts, edition and form, or the number and zeros
unfoldable pub head_over : List ℤ → HeadAnswer
head_over w =
    answer (sheet_no w) (record { number = 0; len = length w; n = points w; m = nodes w; edition = num (edition w); form = num (form w) })
    (λ k. record { number = k; len = 0; n = 0; m = 0; edition = 0; form = 0 })

-- the point reader: 0 and the record, or the number and zeros [C1, C2]
abbrev pub point_over : Result Asset ℕ → PointAnswer
point_over (Ok a) = record { number = 0; id = a.id; x = a.x; y = a.y }
point_over (Err k) = record { number = k; id = 0; x = pos 0; y = pos 0 }

-- "clear, or blocked by a point (its set and position) or by a box side (its set and node number), together with the nodes opened": the kinds are 0, 1, 2.
-- "Where a box side blocks, the answer shall also name the side": 0 left, 1 bottom, 2 right, 3 top, and 0 where none blocks. [E2]
abbrev pub hit_over : Hit → ℕ → WalkAnswer
hit_over Clear c = record { number = 0; kind = 0; set = 0; side = 0; at = 0; opened = c }
hit_over (Point b) c = record { number = 0; kind = 1; set = b.set; side = 0; at = b.position; opened = c }
hit_over (Side e) c = record { number = 0; kind = 2; set = e.set; side = e.side; at = e.node; opened = c }

-- the ring walk: 0 and what it found, or the number and zeros [C1, C2]
abbrev pub walk_over : Result Answer ℕ → WalkAnswer
walk_over (Ok a) = hit_over a.hit a.opened
walk_over (Err k) = record { number = k; kind = 0; set = 0; side = 0; at = 0; opened = 0 }

-- begin: 0 and the book, or the number and a book of zeros [C1, C2]
abbrev pub book_over : Result Book ℕ → BookAnswer
book_over (Ok b) = record { number = 0; book = b }
book_over (Err k) =
    record { number = k; book = record { held = 0; closed = false; source = record { p_edition = 0; q_edition = 0; terms = no_terms } } }

-- the next key: 0 and the key, or the number and (0, 0); with either the book, as it went in
abbrev pub next_over : Result Key ℕ → Book → KeyAnswer
next_over (Ok k) b = record { number = 0; key = k; book = b }
next_over (Err n) b = record { number = n; key = start; book = b }

-- [C1, C2]
abbrev pub key_over : Asked → KeyAnswer
key_over a = next_over a.next a.book

-- the depot: 0 with `issued` for a new key, 0 without for one that is known, or the number; with each the depot from now on
abbrev pub outcome_over : Result Receipt ℕ → Depot → StoreAnswer
outcome_over (Ok Issued) d = record { number = 0; issued = true; depot = d }
outcome_over (Ok Known) d = record { number = 0; issued = false; depot = d }
outcome_over (Err n) d = record { number = n; issued = false; depot = d }

-- [C1, C2]
abbrev pub store_over : Stored → StoreAnswer
store_over a = outcome_over a.outcome a.depot

-- the marker: 0 and its two numbers, or the number and positive zeros
abbrev pub zero_float : Float
zero_float = of_bits binary64 0

-- [C1, C2]
abbrev pub mark_over : Result Marker ℕ → MarkAnswer
mark_over (Ok m) = record { number = 0; x = m.x; y = m.y }
mark_over (Err k) = record { number = k; x = zero_float; y = zero_float }

-- the one answer that the marker's promise admits: the halves of the sums, or 5
unfoldable pub marked_at : ℤ → ℤ → ℤ → ℤ → Result Marker ℕ
marked_at ax ay bx by =
    answer (mark_no ax ay bx by) (Ok (record { x = half_of (ax +ℤ bx); y = half_of (ay +ℤ by) })) Err
