-- The book on small values, by computation: begin, the next key, a page taken, and of two faults the earlier number.
-- Assumes nothing.
use mathlib.Core.Path.{◌≡◌, refl}
use mathlib.Core.Bool.{Bool, true, false}
use mathlib.Core.List.{List, [], ◌∷◌, ◌++◌}
use Prim.Native.Nat.{ℕ}
use lib.ListN.{length, replicate}
use Rattle.std.specs.Prelude.{Ok, Err}
use Rattle.list.specs.declared.Pair.{Pair}
use Rattle.list.specs.declared.Source.{Source}
use Rattle.list.specs.declared.Page.{Page}
use Rattle.list.specs.Pairs.{start, none, key_of, follows, ascends}
use Rattle.list.specs.Pages.{threshold_no, contractor_no, source_no, page_pairs}
use Rattle.words.specs.Range.{id_ok, edition_ok}
use Rattle.plane.specs.Profile.{size_ok}
use Rattle.words.specs.First.{given, first, answer}
use Rattle.book.specs.declared.Book.{Book}
use Rattle.book.specs.Rules.{begin_no, begun_book, begun_for, last_key, next_no, asked_at, asked, pair_ok, pairs_ok, same_key, page_bad, take_no_at, take_no, advanced, accepted, decided, taken, taken_slots}

-- editions 7 and 9, whose list is (5, 1), (5, 2), (6, 2)
abbrev ours : Source
ours = record { p_edition = 7; q_edition = 9; terms = record { threshold = 0; contractor = 2; own = false; grid = false } }

abbrev others : Source
others = record { p_edition = 8; q_edition = 9; terms = record { threshold = 2; contractor = 2; own = false; grid = false } }

-- the same editions, of another t
abbrev less : Source
less = record { p_edition = 7; q_edition = 9; terms = record { threshold = 2; contractor = 2; own = false; grid = false } }

-- a self join
abbrev alone : Source
alone = record { p_edition = 7; q_edition = 7; terms = record { threshold = 0; contractor = 2; own = true; grid = false } }

-- the same editions, of the street grid; other editions of it; a self join of it
abbrev streets : Source
streets = record { p_edition = 7; q_edition = 9; terms = record { threshold = 0; contractor = 2; own = false; grid = true } }

abbrev other_streets : Source
other_streets = record { p_edition = 8; q_edition = 9; terms = record { threshold = 2; contractor = 2; own = false; grid = true } }

abbrev alone_streets : Source
alone_streets = record { p_edition = 7; q_edition = 7; terms = record { threshold = 0; contractor = 2; own = true; grid = true } }

-- the same editions, of the first contractor; the first contractor's of the street grid, with other editions and another t; a self join that says so
abbrev first_own : Source
first_own = record { p_edition = 7; q_edition = 9; terms = record { threshold = 0; contractor = 0; own = false; grid = false } }

abbrev first_streets : Source
first_streets = record { p_edition = 8; q_edition = 9; terms = record { threshold = 2; contractor = 0; own = false; grid = true } }

abbrev first_alone : Source
first_alone = record { p_edition = 7; q_edition = 7; terms = record { threshold = 0; contractor = 0; own = true; grid = false } }

abbrev at : ℕ → ℕ → Pair
at q p = record { q = q; p = p; size = 16 }

abbrev wide : ℕ → Pair
wide n = record { q = 6; p = 1; size = n }

abbrev book : ℕ → Bool → Book
book n shut = record { held = n; closed = shut; source = ours }

abbrev street_book : ℕ → Bool → Book
street_book n shut = record { held = n; closed = shut; source = streets }

-- a page of these pairs
abbrev page : Source → Pair → Bool → List Pair → Page
page s k end l = record { source = s; key = key_of k; count = length l; end = end; pairs = l ++ replicate 16 none }

abbrev two : List Pair
two = at 5 1 ∷ at 5 2 ∷ []

abbrev slots : List Pair
slots = at 5 1 ∷ at 5 2 ∷ at 1 1 ∷ at 1 2 ∷ []

begins : begun_for ours ≡ Ok (book 0 false)
unfolding begun_for begin_no first given answer begun_book edition_ok threshold_no contractor_no
begins = refl

no_edition : begun_for (record { p_edition = 7; q_edition = 0; terms = record { threshold = 60001; contractor = 2; own = false; grid = false } }) ≡ Err 3
unfolding begun_for begin_no first given answer edition_ok
no_edition = refl

no_threshold : begun_for (record { p_edition = 7; q_edition = 9; terms = record { threshold = 60001; contractor = 2; own = false; grid = false } }) ≡ Err 21
unfolding begun_for begin_no first given answer edition_ok threshold_no
no_threshold = refl

-- of the street grid, of two sheets and of one: the profile has no number of its own
begins_streets : begun_for streets ≡ Ok (street_book 0 false)
unfolding begun_for begin_no first given answer begun_book edition_ok threshold_no contractor_no
begins_streets = refl

begins_alone_streets : begun_for alone_streets ≡ Ok (record { held = 0; closed = false; source = alone_streets })
unfolding begun_for begin_no first given answer begun_book edition_ok threshold_no contractor_no
begins_alone_streets = refl

-- a self join: of one edition; of two; with a t
begins_own : begun_for alone ≡ Ok (record { held = 0; closed = false; source = alone })
unfolding begun_for begin_no first given answer begun_book edition_ok threshold_no contractor_no
begins_own = refl

no_two : begun_for (record { p_edition = 7; q_edition = 9; terms = record { threshold = 2; contractor = 2; own = true; grid = false } }) ≡ Err 3
unfolding begun_for begin_no first given answer edition_ok
no_two = refl

no_t : begun_for (record { p_edition = 7; q_edition = 7; terms = record { threshold = 2; contractor = 2; own = true; grid = false } }) ≡ Err 21
unfolding begun_for begin_no first given answer edition_ok
no_t = refl

-- of a contractor; of none; a self join of one; no t before it
begins_first : begun_for first_own ≡ Ok (record { held = 0; closed = false; source = first_own })
unfolding begun_for begin_no first given answer begun_book edition_ok threshold_no contractor_no
begins_first = refl

no_contractor : begun_for (record { p_edition = 7; q_edition = 9; terms = record { threshold = 0; contractor = 3; own = false; grid = false } }) ≡ Err 27
unfolding begun_for begin_no first given answer edition_ok threshold_no contractor_no
no_contractor = refl

no_own_contractor : begun_for first_alone ≡ Err 27
unfolding begun_for begin_no first given answer edition_ok threshold_no contractor_no
no_own_contractor = refl

t_before_contractor : begun_for (record { p_edition = 7; q_edition = 7; terms = record { threshold = 2; contractor = 0; own = true; grid = false } }) ≡ Err 21
unfolding begun_for begin_no first given answer edition_ok threshold_no
t_before_contractor = refl

asks_first : asked (book 0 false) slots ≡ record { next = Ok start; book = book 0 false }
unfolding asked asked_at next_no given answer last_key
asks_first = refl

asks_last : asked (book 2 false) slots ≡ record { next = Ok (key_of (at 5 2)); book = book 2 false }
unfolding asked asked_at next_no given answer last_key
asks_last = refl

asks_too_far : asked (book 5 false) slots ≡ record { next = Err 11; book = book 5 false }
unfolding asked asked_at next_no given answer last_key
asks_too_far = refl

abbrev number : Book → Page → ℕ → Type 0
number b g n = take_no b slots g ≡ n

-- a page is taken: two pairs stand in the first two slots, and the others are as they were
takes : taken (book 0 false) (at 9 9 ∷ at 8 8 ∷ at 7 7 ∷ []) (page ours none false two) ≡ record { number = 0; book = book 2 false }
unfolding taken decided accepted advanced take_no take_no_at source_no first given answer same_key page_bad pairs_ok pair_ok id_ok size_ok ascends follows page_pairs last_key
takes = refl

takes_slots : taken_slots (book 0 false) (at 9 9 ∷ at 8 8 ∷ at 7 7 ∷ []) (page ours none false two) ≡ at 5 1 ∷ at 5 2 ∷ at 7 7 ∷ []
unfolding taken_slots decided accepted advanced take_no take_no_at source_no first given answer same_key page_bad pairs_ok pair_ok id_ok size_ok ascends follows page_pairs last_key
takes_slots = refl

-- of two faults the earlier number: more held than there are slots, and closed
eleven : number (book 5 true) (page ours (at 5 2) true []) 11
unfolding take_no take_no_at first given
eleven = refl

-- closed, and a page of other editions
twelve : number (book 2 true) (page others (at 5 2) true []) 12
unfolding take_no take_no_at first given
twelve = refl

-- closed, and a page of another kind; another kind, and other editions and another key
twelve_first : number (book 2 true) (page alone (at 5 2) true []) 12
unfolding take_no take_no_at first given
twelve_first = refl

twenty_two : number (book 2 false) (page alone (at 5 1) true []) 22
unfolding take_no take_no_at source_no first given
twenty_two = refl

-- another kind, and another contractor; another contractor, and the other profile, other editions, t and key
twenty_two_before : number (book 2 false) (page first_alone (at 5 1) true []) 22
unfolding take_no take_no_at source_no first given
twenty_two_before = refl

twenty_eight : number (book 2 false) (page first_streets (at 5 1) true []) 28
unfolding take_no take_no_at source_no first given
twenty_eight = refl

-- another kind, and the other profile; the other profile, and other editions, t and key; either way
twenty_two_first : number (book 2 false) (page alone_streets (at 5 1) true []) 22
unfolding take_no take_no_at source_no first given
twenty_two_first = refl

thirty : number (book 2 false) (page other_streets (at 5 1) true []) 30
unfolding take_no take_no_at source_no first given
thirty = refl

thirty_back : number (street_book 2 false) (page others (at 5 1) true []) 30
unfolding take_no take_no_at source_no first given
thirty_back = refl

-- other editions, and another t and key
thirteen : number (book 2 false) (page others (at 5 1) true []) 13
unfolding take_no take_no_at source_no first given
thirteen = refl

-- another t, and another key
thirty_one : number (book 2 false) (page less (at 5 1) true []) 31
unfolding take_no take_no_at source_no first given
thirty_one = refl

-- another key, and no pair and no end mark
fourteen : number (book 2 false) (page ours (at 5 1) false []) 14
unfolding take_no take_no_at source_no first given same_key last_key
fourteen = refl

-- a pair that does not follow the key, and more pairs than slots left
fifteen : number (book 2 false) (page ours (at 5 2) true (at 5 2 ∷ at 6 1 ∷ at 6 2 ∷ [])) 15
unfolding take_no take_no_at source_no first given same_key last_key page_bad pairs_ok pair_ok id_ok size_ok ascends follows page_pairs
fifteen = refl

-- "15 is also given when a size lies outside 0 to 8,000,000,000,000", which "becomes 8,000,000,000,000,000,000 for every page"
far : number (book 2 false) (page ours (at 5 2) true (wide 8000000000000000000 ∷ [])) 0
unfolding take_no take_no_at source_no first given same_key last_key page_bad pairs_ok pair_ok id_ok size_ok ascends follows page_pairs
far = refl

too_far : number (book 2 false) (page ours (at 5 2) true (wide 8000000000000000001 ∷ [])) 15
unfolding take_no take_no_at source_no first given same_key last_key page_bad pairs_ok pair_ok id_ok size_ok ascends follows page_pairs
too_far = refl

-- "For this profile the size limit is 16,000,000,000,000": of the street grid; the page of a circle's book may have more
street_far : number (street_book 2 false) (page streets (at 5 2) true (wide 16000000000000 ∷ [])) 0
unfolding take_no take_no_at source_no first given same_key last_key page_bad pairs_ok pair_ok id_ok size_ok ascends follows page_pairs
street_far = refl

street_too_far : number (street_book 2 false) (page streets (at 5 2) true (wide 16000000000001 ∷ [])) 15
unfolding take_no take_no_at source_no first given same_key last_key page_bad pairs_ok pair_ok id_ok size_ok ascends follows page_pairs
street_too_far = refl

circle_farther : number (book 2 false) (page ours (at 5 2) true (wide 16000000000001 ∷ [])) 0
unfolding take_no take_no_at source_no first given same_key last_key page_bad pairs_ok pair_ok id_ok size_ok ascends follows page_pairs
circle_farther = refl

-- more pairs than slots left
sixteen : number (book 2 false) (page ours (at 5 2) true (at 6 1 ∷ at 6 2 ∷ at 6 3 ∷ [])) 16
unfolding take_no take_no_at source_no first given same_key last_key page_bad pairs_ok pair_ok id_ok size_ok ascends follows page_pairs
sixteen = refl

-- "A full book still takes an empty page with the end mark."
full : taken (book 4 false) slots (page ours (at 1 2) true []) ≡ record { number = 0; book = book 4 true }
unfolding taken decided accepted advanced take_no take_no_at source_no first given answer same_key page_bad pairs_ok pair_ok id_ok size_ok ascends follows page_pairs last_key
full = refl
