-- Wrong readings of the order book.
use mathlib.Core.Path.{◌≡◌, refl, sym, ap}
use mathlib.Core.Bool.{Bool, true, false, not, ◌&&◌, true≢false}
use mathlib.Core.List.{List, [], ◌∷◌, ◌++◌}
use Prim.Native.Nat.{ℕ, ◌+◌, ◌-◌}
use lib.Dec.{eqb, leb, ltb}
use lib.Seq.{paste}
use lib.ListN.{length, get_or, replicate}
use Rattle.std.specs.Prelude.{Result, Ok, Err}
use Rattle.words.specs.Range.{id_ok, edition_ok}
use Rattle.words.specs.First.{given, first, answer}
use Rattle.plane.specs.Profile.{size_ok}
use Rattle.list.specs.declared.Key.{Key}
use Rattle.list.specs.declared.Pair.{Pair}
use Rattle.list.specs.declared.Source.{Source}
use Rattle.list.specs.declared.Terms.{Terms}
use Rattle.list.specs.declared.Page.{Page}
use Rattle.list.specs.Pairs.{start, none, key_of, follows, ascends}
use Rattle.list.specs.Pages.{threshold_no, contractor_no, source_no, page_pairs}
use Rattle.list.specs.Terms.{full, with_t, alone}
use Rattle.book.specs.declared.Book.{Book}
use Rattle.book.specs.Rules.{begin_no, begun_book, begun_for, last_key, next_no, pair_ok, pairs_ok, same_key, page_bad, take_no_at, take_no, advanced, accepted, refused, decided, taken, taken_slots}
use Rattle.refuted.proofs.Cases.{to, key}

abbrev source : ℕ → ℕ → Terms → Source
source p q a = record { p_edition = p; q_edition = q; terms = a }

abbrev book : ℕ → Bool → Book
book n shut = record { held = n; closed = shut; source = source 7 9 full }

-- a page of these pairs after a key
abbrev page : Key → Bool → List Pair → Page
page k end l = record { source = source 7 9 full; key = k; count = length l; end = end; pairs = l ++ replicate 16 none }

abbrev slots : List Pair
slots = to 5 1 16 ∷ to 1 1 1 ∷ to 2 2 2 ∷ []

-- ---- begin

abbrev is_shut : Result Book ℕ → Bool
is_shut (Ok b) = b.closed
is_shut (Err n) = false

-- A book is begun closed. "A book is begun for two editions with nothing held, open, key (0, 0)." [K1, D5]
pub begun_closed_wrong : begun_for (source 7 9 full) ≡ Ok (book 0 true) → ⊥
unfolding begun_for begin_no first given answer begun_book edition_ok threshold_no contractor_no
begun_closed_wrong e = true≢false (sym (ap is_shut e))

-- Two editions of a self join. "Begin gives 3 for a self join of two editions, 21 with a t." [J12, J13]
abbrev editions_alone : Source → ℕ
editions_alone s = given (not (edition_ok s.p_edition && edition_ok s.q_edition)) 3

pub two_alone_wrong : (editions_alone (source 7 9 alone) ≡ 0) × (begin_no (source 7 9 alone) ≡ 3)
unfolding begin_no first given edition_ok
two_alone_wrong = (refl, refl)

-- A self join with a t, which is in range. [J13]
abbrev in_range : Source → ℕ
in_range s = first (editions_alone s ∷ threshold_no s.terms.threshold ∷ [])

abbrev own_with : ℕ → Source
own_with t = source 7 7 (record { threshold = t; contractor = 2; own = true; grid = false })

pub own_with_t_wrong : (in_range (own_with 2) ≡ 0) × (begin_no (own_with 2) ≡ 21)
unfolding begin_no first given edition_ok threshold_no
own_with_t_wrong = (refl, refl)

-- t before the editions. "21 [..] after [..] 3 for begin". [T10]
abbrev threshold_first : Source → ℕ
threshold_first s = first (threshold_no s.terms.threshold ∷ editions_alone s ∷ [])

pub begin_t_first_wrong : (threshold_first (source 0 9 (with_t 60001)) ≡ 21) × (begin_no (source 0 9 (with_t 60001)) ≡ 3)
unfolding begin_no first given edition_ok threshold_no
begin_t_first_wrong = (refl, refl)

-- ---- the next key

-- From the slot after the last held one, or from the first. "Its next key is its last pair." [K4]
abbrev key_after : ℕ → List Pair → Key
key_after held l = key_of (get_or l held none)

pub next_from_held_wrong : (key_after 2 slots ≡ key 2 2) × (last_key 2 slots ≡ key 1 1)
unfolding last_key
next_from_held_wrong = (refl, refl)

abbrev key_first : ℕ → List Pair → Key
key_first held l = key_of (get_or l 0 none)

-- [K4]
pub next_from_first_wrong : (key_first 2 slots ≡ key 5 1) × (last_key 2 slots ≡ key 1 1)
unfolding last_key
next_from_first_wrong = (refl, refl)

-- A closed book is asked for no key. "Asking the next key refuses only by 11." [N25]
abbrev closed_refused : Book → ℕ → ℕ
closed_refused b len = first (given (ltb len b.held) 11 ∷ given b.closed 12 ∷ [])

pub closed_refused_wrong : (closed_refused (book 1 true) 3 ≡ 12) × (next_no (book 1 true) 3 ≡ 0)
unfolding next_no first given
closed_refused_wrong = (refl, refl)

-- ---- take

-- "a book that takes nothing": the answer to its own next request brings it on. [K5, D6, V3]
pub takes_nothing_wrong : (taken (book 1 false) slots (page (key 5 1) false (to 5 2 36 ∷ []))).book ≡ book 1 false → ⊥
unfolding taken decided accepted refused advanced take_no take_no_at source_no first given answer same_key page_bad pairs_ok pair_ok id_ok size_ok ascends follows page_pairs last_key
takes_nothing_wrong e = true≢false (ap (λ (b : Book). eqb b.held 2) e)

-- A page of any key. "14 page key is not the book's next key": else a page that comes again is appended again. [N29, D4]
abbrev any_key : Book → List Pair → Page → ℕ
any_key b l g =
    first (given (ltb (length l) b.held) 11 ∷ given b.closed 12 ∷ source_no b.source g.source ∷ given (page_bad g) 15 ∷ given (ltb (length l - b.held) g.count) 16 ∷ [])

pub other_key_wrong :
    (any_key (book 1 false) slots (page start false (to 5 1 16 ∷ [])) ≡ 0) × (take_no (book 1 false) slots (page start false (to 5 1 16 ∷ [])) ≡ 14)
unfolding taken decided accepted refused advanced take_no take_no_at source_no first given answer same_key page_bad pairs_ok pair_ok id_ok size_ok ascends follows page_pairs last_key
other_key_wrong = (refl, refl)

-- All sixteen pairs are stored whatever the page counts. "Slots past the held ones are never touched." [K7]
abbrev stored_all : Book → List Pair → Page → List Pair
stored_all b l g = paste l b.held g.pairs 16

pub past_held_wrong :
    (get_or (stored_all (book 1 false) slots (page (key 5 1) false (to 5 2 36 ∷ []))) 2 none ≡ none)
    × (get_or (taken_slots (book 1 false) slots (page (key 5 1) false (to 5 2 36 ∷ []))) 2 none ≡ to 2 2 2)
unfolding taken_slots taken decided accepted refused advanced take_no take_no_at source_no first given answer same_key page_bad pairs_ok pair_ok id_ok size_ok ascends follows page_pairs last_key
past_held_wrong = (refl, refl)

-- A pair of any size. "Refusal 15's size limit becomes 8,000,000,000,000,000,000 for every page." [Z3]
abbrev any_size : Pair → Bool
any_size v = id_ok v.q && id_ok v.p

pub any_size_wrong : (any_size (to 5 2 8000000000000000001) ≡ true) × (pair_ok false (to 5 2 8000000000000000001) ≡ false)
unfolding pair_ok id_ok size_ok
any_size_wrong = (refl, refl)

-- The limit of form 1's sizes. "8,000,000,000,000,000,000 for every page". [Y5]
abbrev old_limit : Pair → Bool
old_limit v = id_ok v.q && id_ok v.p && leb v.size 8000000000000

pub old_limit_wrong : (old_limit (to 5 2 8000000000000000000) ≡ false) × (pair_ok false (to 5 2 8000000000000000000) ≡ true)
unfolding pair_ok id_ok size_ok
old_limit_wrong = (refl, refl)

-- A full book takes nothing more. "A full book still takes an empty page with the end mark." [N33]
abbrev full_refused : Book → List Pair → ℕ
full_refused b l = given (not (ltb b.held (length l))) 16

pub full_refused_wrong : (full_refused (book 3 false) slots ≡ 16) × (take_no (book 3 false) slots (page (key 2 2) true []) ≡ 0)
unfolding taken decided accepted refused advanced take_no take_no_at source_no first given answer same_key page_bad pairs_ok pair_ok id_ok size_ok ascends follows page_pairs last_key
full_refused_wrong = (refl, refl)

-- An empty page with no end mark. 15 is given for "no pair and no end mark". [N30]
abbrev empty_ok : Page → Bool
empty_ok g = not (ltb 16 g.count) && pairs_ok false (page_pairs g) && ascends g.key (page_pairs g)

pub empty_page_wrong : (empty_ok (page (key 5 1) false []) ≡ true) × (take_no (book 1 false) slots (page (key 5 1) false []) ≡ 15)
unfolding taken decided accepted refused advanced take_no take_no_at source_no first given answer same_key page_bad pairs_ok pair_ok id_ok size_ok ascends follows page_pairs last_key
empty_page_wrong = (refl, refl)

-- The book stays open. "closes the book if the end mark is set". [K6]
abbrev stays_open : Book → Page → Book
stays_open b g = record { held = b.held + g.count; closed = false; source = b.source }

pub stays_open_wrong : ((stays_open (book 1 false) (page (key 5 1) true [])).closed ≡ false) × ((taken (book 1 false) slots (page (key 5 1) true [])).book.closed ≡ true)
unfolding taken decided accepted refused advanced take_no take_no_at source_no first given answer same_key page_bad pairs_ok pair_ok id_ok size_ok ascends follows page_pairs last_key
stays_open_wrong = (refl, refl)
