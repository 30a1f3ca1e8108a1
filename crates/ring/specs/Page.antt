-- The page request: its number, and its answer.
use Rattle.std.specs.Prelude.{Bool, false, not, ◌&&◌, List, [], ◌∷◌, ℕ, leb, ℤ, length, replicate}
use Rattle.words.specs.Word.{num}
use Rattle.words.specs.Range.{last_id}
use Rattle.words.specs.First.{given, first, answer}
use Rattle.sheet.specs.Layout.{edition, points}
use Rattle.sheet.specs.Places.{points_of}
use Rattle.sheet.specs.Open.{sheet_no}
use Rattle.list.specs.declared.Key.{Key}
use Rattle.list.specs.declared.Source.{Source}
use Rattle.list.specs.declared.Terms.{Terms}
use Rattle.list.specs.declared.Request.{Request}
use Rattle.list.specs.Pairs.{start, none}
use Rattle.list.specs.Pages.{threshold_no, size_no, contractor_no, owners_no, page_of}
use Rattle.list.specs.Terms.{with_by, of_contractor, list_for}
use Rattle.join.specs.Work.{page_opened}
use Rattle.join.specs.Only.{page_walks}
use Rattle.ring.specs.Lent.{need, bits_no, wiped_by}
use Rattle.ring.specs.Numbers.{grid_no}
use Rattle.ring.specs.declared.Paged.{Paged}

-- 9: "key out of range", "each 0 to 2,000,000,000" [P1, N22]
unfoldable pub key_no : Key → ℕ
key_no key = given (not (leb key.q last_id && leb key.p last_id)) 9

-- 29 "before 9", then 9, then 10, then 21 "t outside 0 to 1,000 [..] after 10 for a page": what the request of an undivided list is refused by, of sheets that open
-- [N22, N23, T10, V1]
unfoldable pub asked_no : List ℤ → List ℤ → Bool → Key → ℕ → ℕ → ℕ
asked_no P Q g key size t = first (grid_no g P Q ∷ key_no key ∷ size_no size ∷ threshold_no t ∷ [])

-- "27 contractor outside 0 to 2 [..]; then 26 owner bytes not one 0 or 1 a chamber, or any for 2; both before 9", and 29 "after 26 and before 9": what any request is refused by, of
-- sheets that open of which Q has n chambers
unfoldable pub request_no : List ℤ → List ℤ → List ℕ → ℕ → Request → ℕ
request_no P Q o n a = first (contractor_no false a.contractor ∷ owners_no a.contractor o n ∷ grid_no a.grid P Q ∷ key_no a.key ∷ size_no a.size ∷ threshold_no a.threshold ∷ [])

-- "checks its sheets first [..]: 1 to 8 for P, then for Q"; 27, 26, 29, 9, 10, 21; "24 bit slice too short, after all others": of the owner bytes o [Y15, A13, U1, U13, U14, V1]
unfoldable pub page_no : List ℤ → List ℤ → List ℕ → Request → ℕ → ℕ
page_no P Q o a len =
    first
    (sheet_no P
    ∷ sheet_no Q
    ∷ contractor_no false a.contractor
    ∷ owners_no a.contractor o (points Q)
    ∷ grid_no a.grid P Q
    ∷ key_no a.key
    ∷ size_no a.size
    ∷ threshold_no a.threshold
    ∷ bits_no (need P) len
    ∷ [])

-- "The page holds both editions"; "Pages and books now carry t, 0 for the full list" and "say their kind" [P3, T5, J5, J10]
unfoldable pub source_of : List ℤ → List ℤ → Terms → Source
source_of P Q a = record { p_edition = num (edition P); q_edition = num (edition Q); terms = a }

-- the page of the terms' list, from the points and the owner bytes alone, and beside it the count of the walks: "Only its own chambers are filtered and counted"
-- [P3, P8, T4, U1, U7]
unfoldable pub page_given : Terms → List ℕ → List ℤ → List ℤ → Key → ℕ → Paged
page_given a o P Q key size =
    record {
      number = 0;
      opened = page_opened (page_walks a o (need P) P Q (points P)) key size (points P) (points Q);
      page = page_of (source_of P Q a) (list_for a o (points_of P) (points_of Q)) key size;
    }

-- the terms of no list, all zero
abbrev pub no_terms : Terms
no_terms = record { threshold = 0; contractor = 0; own = false; grid = false }

-- "Every refusal gives only its number [..]. An array or number in a refused answer is all zero" [N2, N4]
unfoldable pub page_refused : ℕ → Paged
page_refused k =
    record {
      number = k;
      opened = 0;
      page = record { source = record { p_edition = 0; q_edition = 0; terms = no_terms }; key = start; count = 0; end = false; pairs = replicate 16 none };
    }

-- what a request's list is told by: it is of two sheets
abbrev pub terms_of : Request → Terms
terms_of a = of_contractor a.contractor (with_by a.grid a.threshold)

-- the answer for so many lent words, by its number: 0 is the page, any other is the refusal of that number
unfoldable pub page_answer : List ℤ → List ℤ → List ℕ → Request → ℕ → Paged
page_answer P Q o a len = answer (page_no P Q o a len) (page_given (terms_of a) o P Q a.key a.size) page_refused

-- the lent words after it: "any other call zeros" [Y10]
unfoldable pub page_bits : List ℤ → List ℤ → List ℕ → Request → List ℕ → List ℕ
page_bits P Q o a ws = wiped_by (page_no P Q o a (length ws)) (need P) ws
