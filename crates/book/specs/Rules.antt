-- The order book: begin, the next key, and what taking a page decides, stores and hands back.
use Rattle.std.specs.Prelude.{Bool, true, false, not, ◌&&◌, ◌||◌, List, [], ◌∷◌, ◌++◌, ℕ, zero, suc, ◌+◌, ◌-◌, eqb, ltb, length, take, drop, get_or, Result, Ok, Err}
use Rattle.std.proofs.Math.Seq.{paste}
use Rattle.words.specs.Range.{id_ok, edition_ok}
use Rattle.words.specs.First.{given, first, answer}
use Rattle.plane.specs.Profile.{size_ok}
use Rattle.list.specs.declared.Key.{Key}
use Rattle.list.specs.declared.Pair.{Pair}
use Rattle.list.specs.declared.Source.{Source}
use Rattle.list.specs.declared.Page.{Page}
use Rattle.list.specs.Pairs.{start, none, key_of, ascends}
use Rattle.list.specs.Pages.{threshold_no, contractor_no, source_no, page_pairs}
use Rattle.list.specs.Lent.{lent_of}
use Rattle.book.specs.declared.Book.{Book}
use Rattle.book.specs.declared.Asked.{Asked}
use Rattle.book.specs.declared.Taken.{Taken}
use Rattle.book.specs.declared.Decided.{Decided}
use Rattle.book.specs.declared.TakenArray.{TakenArray}

-- ---- begin

-- a self join is of one sheet: "3 for a self join of two editions" [J12]
abbrev pub one_sheet : Source → Bool
one_sheet s = not s.terms.own || eqb s.p_edition s.q_edition

-- a self join has no t [J13]
abbrev pub own_with_t : Source → Bool
own_with_t s = s.terms.own && not (eqb s.terms.threshold 0)

-- 3: an edition out of range, or a self join of two editions; then 21 "t outside 0 to 1,000 [..] after [..] 3 for begin", and for a self join "21 with a t"; then
-- "27 contractor outside 0 to 2, or not 2 for a self join, for begin after 21" [N24, T10, J12, J13, U13]
unfoldable pub begin_no : Source → ℕ
begin_no s =
    first
    (given (not (edition_ok s.p_edition && edition_ok s.q_edition && one_sheet s)) 3
    ∷ given (own_with_t s) 21
    ∷ threshold_no s.terms.threshold
    ∷ contractor_no s.terms.own s.terms.contractor
    ∷ [])

-- "A book is begun for two editions with nothing held, open, key (0, 0)." "Pages and books now carry t", "say their kind" and "carry the contractor": it is begun for these too.
-- [K1, T5]
unfoldable pub begun_book : Source → Book
begun_book s = record { held = 0; closed = false; source = s }

-- the document's number for each case of the answer [F10]
unfoldable pub begun_no : Result Book ℕ → ℕ
begun_no (Ok b) = 0
begun_no (Err n) = n

-- the answer of begin: 0 goes with the book, "Every refusal gives only its number" [K1, K8]
unfoldable pub begun_for : Source → Result Book ℕ
begun_for s = answer (begin_no s) (Ok (begun_book s)) Err

-- ---- the next key

-- "Its next key is its last pair": the key of the last held slot, and (0, 0) where nothing is held [K4]
unfoldable pub last_key : ℕ → List Pair → Key
last_key zero slots = start
last_key (suc n) slots = key_of (get_or slots n none)

-- 11: held exceeds the slice's length. "Asking the next key refuses only by 11." [N25, N26]
unfoldable pub next_no : Book → ℕ → ℕ
next_no b len = given (ltb len b.held) 11

-- the document's number for each case of the answer [F10]
unfoldable pub next_case_no : Result Key ℕ → ℕ
next_case_no (Ok k) = 0
next_case_no (Err n) = n

-- the answer of next key, for a slice of `len` slots of which the last held one has the key k
unfoldable pub asked_at : Book → ℕ → Key → Asked
asked_at b len k = record { next = answer (next_no b len) (Ok k) Err; book = b }

-- the answer of next key [K2]
unfoldable pub asked : Book → List Pair → Asked
asked b slots = asked_at b (length slots) (last_key b.held slots)

-- ---- take

-- the ids are 1 to 2,000,000,000, and the size 0 to the limit of its profile, the street grid's where g is true [N30, Z3, A12]
unfoldable pub pair_ok : Bool → Pair → Bool
pair_ok g v = id_ok v.q && id_ok v.p && size_ok g v.size

-- [N30]
unfoldable pub pairs_ok : Bool → List Pair → Bool
pairs_ok g [] = true
pairs_ok g (v ∷ l) = pair_ok g v && pairs_ok g l

-- [N29]
unfoldable pub same_key : Key → Key → Bool
same_key a b = eqb a.q b.q && eqb a.p b.p

-- "A page is one record that holds its sixteen pairs."
abbrev pub page_most : ℕ
page_most = 16

-- 15: "over 16 pairs; an id outside 1 to 2,000,000,000; pairs not ascending strictly after the key; no pair and no end mark"; "15 is also given when a size lies outside
-- 0 to" the limit of the page's own profile, which is the book's once 30 is passed: 8,000,000,000,000,000,000, and for the street grid 16,000,000,000,000. Only the pairs that the
-- page counts are looked at. [N30, Z3, A12]
unfoldable pub page_bad : Page → Bool
page_bad g =
    ltb page_most g.count || not (pairs_ok g.source.terms.grid (page_pairs g)) || not (ascends g.key (page_pairs g)) || (eqb g.count 0 && not g.end)

-- the number of refusal in the document's order, 0 where the page is taken: for a slice of `len` slots of which the last held one has the key k.
-- 11 held exceeds the slice's length; 12 book closed; 22 wrong kind, 28 page of another contractor, 30 of the other profile, 13 of other editions, 31 of another t; 14 page key is not the book's next key; 15;
-- 16 more pairs than slots left [N26, N27, N28, N29, N31, N32, N33]
unfoldable pub take_no_at : Book → ℕ → Key → Page → ℕ
take_no_at b len k g =
    first
    (given (ltb len b.held) 11
    ∷ given b.closed 12
    ∷ source_no b.source g.source
    ∷ given (not (same_key g.key k)) 14
    ∷ given (page_bad g) 15
    ∷ given (ltb (len - b.held) g.count) 16
    ∷ [])

-- "Taking a page appends its pairs and closes the book if the end mark is set." [K5, K6, V3]
unfoldable pub advanced : Book → Page → Book
advanced b g = record { held = b.held + g.count; closed = g.end; source = b.source }

-- a taken page is appended whole
unfoldable pub accepted : Book → Page → Decided
accepted b g = record { n = g.count; taken = record { number = 0; book = advanced b g } }

-- a refused one appends nothing: it "leaves lent memory and book state as they stood" [N3]
unfoldable pub refused : Book → ℕ → Decided
refused b m = record { n = 0; taken = record { number = m; book = b } }

unfoldable pub decided_at : Book → ℕ → Key → Page → Decided
decided_at b len k g = answer (take_no_at b len k g) (accepted b g) (refused b)

-- the number of refusal of a page, of any state and slice [N32, T11, J11, A14, U15]
unfoldable pub take_no : Book → List Pair → Page → ℕ
take_no b slots g = take_no_at b (length slots) (last_key b.held slots) g

unfoldable pub decided : Book → List Pair → Page → Decided
decided b slots g = answer (take_no b slots g) (accepted b g) (refused b)

-- the answer of take [K2]
unfoldable pub taken : Book → List Pair → Page → Taken
taken b slots g = (decided b slots g).taken

-- the slots after it: the page's pairs stand from the held ones on, and every other slot is as it was [K3, K5, K7, N3, V3, F8]
unfoldable pub taken_slots : Book → List Pair → Page → List Pair
taken_slots b slots g = paste slots b.held g.pairs (decided b slots g).n

-- ---- a part of an array, lent

abbrev pub with_slots : List Pair → Taken → TakenArray
with_slots slots t = record { slots = slots; taken = t }

-- `take` on the first so many of 64 slots: the others are as they were
unfoldable pub taken_array : List Pair → ℕ → Book → Page → TakenArray
taken_array slots len b g =
    with_slots (taken_slots b (take (lent_of 64 len) slots) g ++ drop (lent_of 64 len) slots) (taken b (take (lent_of 64 len) slots) g)
