-- One input, one answer and one final state of the slots: from each promise alone. And the number that each answer has.
-- Assumes nothing.
use mathlib.Core.Path.{◌≡◌, refl, sym, ◌∙◌}
use mathlib.Core.List.{List}
use Prim.Native.Nat.{ℕ}
use lib.ListN.{length, take}
use Rattle.std.specs.Prelude.{Result, Ok, Err}
use Rattle.words.proofs.FirstLaws.{answer_number}
use Rattle.list.specs.declared.Pair.{Pair}
use Rattle.list.specs.declared.Source.{Source}
use Rattle.list.specs.declared.Page.{Page}
use Rattle.list.specs.Lent.{lent_of}
use Rattle.book.specs.declared.Book.{Book}
use Rattle.book.specs.declared.Asked.{Asked}
use Rattle.book.specs.declared.Taken.{Taken}
use Rattle.book.specs.declared.TakenArray.{TakenArray}
use Rattle.book.specs.Rules.{begin_no, begun_no, begun_book, begun_for, last_key, next_no, next_case_no, asked_at, asked, taken, taken_slots, taken_array}

pub book_begin_once : (s : Source) (r r' : Result Book ℕ) → r ≡ begun_for s → r' ≡ begun_for s → r ≡ r'
book_begin_once s r r' x y = x ∙ sym y

pub book_next_once : (b : Book) (s : List Pair) (r r' : Asked) → r ≡ asked b s → r' ≡ asked b s → r ≡ r'
book_next_once b s r r' x y = x ∙ sym y

pub book_take_once : (b : Book) (s : List Pair) (g : Page) (r r' : Taken) (t t' : List Pair)
    → (r ≡ taken b s g) × (t ≡ taken_slots b s g) → (r' ≡ taken b s g) × (t' ≡ taken_slots b s g) → (r ≡ r') × (t ≡ t')
book_take_once b s g r r' t t' x y = (x.0 ∙ sym y.0, x.1 ∙ sym y.1)

pub book_next_array_once : (s : List Pair) (len : ℕ) (b : Book) (r r' : Asked) → r ≡ asked b (take (lent_of 64 len) s) → r' ≡ asked b (take (lent_of 64 len) s) → r ≡ r'
book_next_array_once s len b r r' x y = x ∙ sym y

pub book_take_array_once : (s : List Pair) (len : ℕ) (b : Book) (g : Page) (r r' : TakenArray) → r ≡ taken_array s len b g → r' ≡ taken_array s len b g → r ≡ r'
book_take_array_once s len b g r r' x y = x ∙ sym y

-- ---- the number of each answer

pub book_begin_no : (s : Source) → begun_no (begun_for s) ≡ begin_no s
unfolding begun_for begun_no
book_begin_no s = answer_number (Ok (begun_book s)) Err begun_no refl (λ k. refl) (begin_no s)

pub book_next_no : (b : Book) (s : List Pair) → next_case_no (asked b s).next ≡ next_no b (length s)
unfolding asked asked_at next_case_no
book_next_no b s = answer_number (Ok (last_key b.held s)) Err next_case_no refl (λ k. refl) (next_no b (length s))

-- asking hands the state back
pub asked_book : (b : Book) (s : List Pair) → (asked b s).book ≡ b
unfolding asked asked_at
asked_book b s = refl
