-- Order forms, and how they are made from a book: "From a book it makes one order form per held pair in a lent slice".
use Rattle.std.specs.Prelude.{List, [], ◌∷◌, ◌++◌, map, ℕ, ltb, length, take, drop}
use Rattle.words.specs.First.{given, first, answer}
use Rattle.list.specs.declared.Pair.{Pair}
use Rattle.list.specs.declared.Source.{Source}
use Rattle.list.specs.Lent.{lent_of}
use Rattle.book.specs.declared.Book.{Book}
use Rattle.depot.specs.declared.Form.{Form}
use Rattle.depot.specs.declared.Made.{Made}
use Rattle.depot.specs.declared.MadeArray.{MadeArray}

-- ---- a form

-- The form of a pair of a list: the key is "both editions, kind, contractor, profile and the two ids"; the size of the circle stands beside it. The t of the list is no part of
-- a form: a pair of the full list and the same pair of the list of t = 3 are one order. [I1, I3, I4]
unfoldable pub form_of : Source → Pair → Form
form_of s v =
    record {
      p_edition = s.p_edition;
      q_edition = s.q_edition;
      own = s.terms.own;
      contractor = s.terms.contractor;
      grid = s.terms.grid;
      q = v.q;
      p = v.p;
      size = v.size;
    }

-- ---- making forms

-- "Making forms: 11, then 16 for too few slots": for a book with `len` slots, and room for `room` forms [I16]
unfoldable pub forms_no : Book → ℕ → ℕ → ℕ
forms_no b len room =
    first
    (given (ltb len b.held) 11
    ∷ given (ltb room b.held) 16
    ∷ [])

abbrev pub none_made : ℕ → Made
none_made n = record { number = n; count = 0 }

abbrev pub all_made : Book → Made
all_made b = record { number = 0; count = b.held }

-- "one order form per held pair": as many as the book holds, of a closed book or of one still open; "Every refusal gives only its number" [I16]
unfoldable pub made_for : Book → ℕ → ℕ → Made
made_for b len room = answer (forms_no b len room) (all_made b) none_made

-- the answer of `forms`
unfoldable pub forms_answer : Book → List Pair → List Form → Made
forms_answer b slots out = made_for b (length slots) (length out)

-- the forms of the pairs that a book holds, in their order [I1]
unfoldable pub forms_of : Book → List Pair → List Form
forms_of b slots = map (form_of b.source) (take b.held slots)

-- "one order form per held pair in a lent slice": they stand in the first places, and the rest of the slice isn't touched; a refusal leaves it as it was [I1, I2]
unfoldable pub forms_out : Book → List Pair → List Form → List Form
forms_out b slots out = answer (forms_no b (length slots) (length out)) (forms_of b slots ++ drop b.held out) (λ n. out)

-- ---- a part of an array, lent

abbrev pub with_forms : List Form → Made → MadeArray
with_forms out m = record { out = out; made = m }

-- `forms` on the first so many of 64 slots and of 64 places for forms: the other places are as they were [I2]
unfoldable pub made_array : List Pair → ℕ → List Form → ℕ → Book → MadeArray
made_array slots len out room b =
    with_forms
    (forms_out b (take (lent_of 64 len) slots) (take (lent_of 64 room) out) ++ drop (lent_of 64 room) out)
    (forms_answer b (take (lent_of 64 len) slots) (take (lent_of 64 room) out))
