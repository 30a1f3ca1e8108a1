-- Wrong readings of the depot's forms.
use mathlib.Core.Path.{◌≡◌, refl, ap}
use mathlib.Core.Bool.{Bool, true, false, not, ◌&&◌, true≢false}
use mathlib.Core.List.{List, [], ◌∷◌, ◌++◌, map}
use Prim.Native.Nat.{ℕ, ◌-◌}
use lib.Dec.{eqb, leb, ltb}
use lib.ListN.{length, take, get_or, set, replicate}
use Rattle.std.specs.Prelude.{Result, Ok, Err}
use Rattle.plane.specs.Profile.{size_ok}
use Rattle.words.specs.Range.{id_ok, edition_ok}
use Rattle.words.specs.All.{all_b}
use Rattle.words.specs.First.{given, first, answer}
use Rattle.plane.specs.Rule.{same_spot, blocks}
use Rattle.list.specs.declared.Pair.{Pair}
use Rattle.list.specs.declared.Source.{Source}
use Rattle.list.specs.Rows.{row, rows, at_least, list_by}
use Rattle.list.specs.RingList.{unblocked, ring_pair_by}
use Rattle.list.specs.Terms.{with_t, pair_for, listed_for, list_for}
use Rattle.book.specs.declared.Book.{Book}
use Rattle.depot.specs.declared.Receipt.{Receipt}
use Rattle.depot.specs.declared.Receipt.TheVariants.{Issued, Known}
use Rattle.depot.specs.declared.Form.{Form}
use Rattle.depot.specs.declared.Depot.{Depot}
use Rattle.depot.specs.Forms.{form_of, forms_no, forms_of, forms_out}
use Rattle.depot.specs.Depot.{begun_depot, same_form, key_in, form_ok, store_no_at, judged, is_known, store_no, verdict, stored, stored_slots}
use Rattle.refuted.proofs.Cases.{to, pumps, chambers}

-- an order of a two-sheet book of editions 7 and 9; of a self join; with another size
abbrev form : Bool → ℕ → Bool → ℕ → ℕ → ℕ → Form
form own contractor grid q p size = record { p_edition = 7; q_edition = 9; own = own; contractor = contractor; grid = grid; q = q; p = p; size = size }

abbrev order : ℕ → ℕ → ℕ → Form
order q p size = form false 2 false q p size

abbrev holding : ℕ → Depot
holding n = record { held = n }

-- two slots, of which the second holds (5, 2)
abbrev two : List Form
two = order 5 1 16 ∷ order 5 2 36 ∷ []

-- ---- the key

-- The size is a part of the key. "its key being both editions, kind, contractor, profile and the two ids". [I4]
abbrev sized_key : Form → Form → Bool
sized_key f g = same_form f g && eqb f.size g.size

pub key_with_size_wrong : (sized_key (order 5 1 16) (order 5 1 17) ≡ false) × (same_form (order 5 1 16) (order 5 1 17) ≡ true)
unfolding same_form
key_with_size_wrong = (refl, refl)

-- The ids and editions alone are the key: two hydrants of a self join, and a chamber and a pump house with their ids, are one order. [I3]
abbrev editions_and_ids : Form → Form → Bool
editions_and_ids f g = eqb f.p_edition g.p_edition && eqb f.q_edition g.q_edition && eqb f.q g.q && eqb f.p g.p

pub key_no_kind_wrong : (editions_and_ids (order 5 1 16) (form true 2 false 5 1 16) ≡ true) × (same_form (order 5 1 16) (form true 2 false 5 1 16) ≡ false)
unfolding same_form
key_no_kind_wrong = (refl, refl)

-- [I3]
pub key_no_contractor_wrong : (editions_and_ids (order 5 1 16) (form false 0 false 5 1 16) ≡ true) × (same_form (order 5 1 16) (form false 0 false 5 1 16) ≡ false)
unfolding same_form
key_no_contractor_wrong = (refl, refl)

-- [I3, I13]
pub key_no_profile_wrong : (editions_and_ids (order 5 1 16) (form false 2 true 5 1 16) ≡ true) × (same_form (order 5 1 16) (form false 2 true 5 1 16) ≡ false)
unfolding same_form
key_no_profile_wrong = (refl, refl)

-- The ids alone. A new edition has new keys. [I3, I13]
abbrev ids_alone : Form → Form → Bool
ids_alone f g = eqb f.q g.q && eqb f.p g.p

abbrev newer : Form
newer = record { p_edition = 7; q_edition = 10; own = false; contractor = 2; grid = false; q = 5; p = 1; size = 16 }

pub key_no_editions_wrong : (ids_alone (order 5 1 16) newer ≡ true) × (same_form (order 5 1 16) newer ≡ false)
unfolding same_form
key_no_editions_wrong = (refl, refl)

-- The t of the list is a part of the key. It is none: a pair of the full list and of the list of t = 3 are one order. [I4]
abbrev source : ℕ → Source
source t = record { p_edition = 7; q_edition = 9; terms = with_t t }

abbrev key_with_t : Source → Source → Pair → Bool
key_with_t a b v = same_form (form_of a v) (form_of b v) && eqb a.terms.threshold b.terms.threshold

pub key_with_t_wrong : (key_with_t (source 0) (source 3) (to 5 1 16) ≡ false) × (same_form (form_of (source 0) (to 5 1 16)) (form_of (source 3) (to 5 1 16)) ≡ true)
unfolding same_form form_of
key_with_t_wrong = (refl, refl)

-- ---- begin

-- A depot that is begun holding a form. "the depot is begun empty". [I7]
pub begun_holding_wrong : begun_depot ≡ holding 1 → ⊥
unfolding begun_depot
begun_holding_wrong e = true≢false (ap (λ (d : Depot). eqb d.held 0) e)

-- ---- taking a form

-- A full depot refuses by 16 whatever the key. "16 exactly for a new key with no slot left". [I15]
abbrev full_refuses : Depot → List Form → Form → ℕ
full_refuses d l f = first (given (ltb (length l) d.held) 11 ∷ given (not (form_ok f)) 15 ∷ given (leb (length l) d.held) 16 ∷ [])

pub full_known_wrong : (full_refuses (holding 2) two (order 5 2 36) ≡ 16) × (store_no (holding 2) two (order 5 2 36) ≡ 0)
unfolding store_no store_no_at is_known key_in same_form form_ok id_ok edition_ok first given
full_known_wrong = (refl, refl)

-- 15 after 16. "Refusals, in this order: 11 [..], 15 [..], 16". [I14, I15]
abbrev room_first : Depot → List Form → Form → ℕ
room_first d l f = first (given (ltb (length l) d.held) 11 ∷ given (not (is_known d l f) && leb (length l) d.held) 16 ∷ given (not (form_ok f)) 15 ∷ [])

pub depot_room_first_wrong : (room_first (holding 2) two (order 0 2 36) ≡ 16) × (store_no (holding 2) two (order 0 2 36) ≡ 15)
unfolding store_no store_no_at is_known key_in same_form form_ok id_ok edition_ok first given
depot_room_first_wrong = (refl, refl)

-- 15 before 11. [I14]
abbrev range_first : Depot → List Form → Form → ℕ
range_first d l f = first (given (not (form_ok f)) 15 ∷ given (ltb (length l) d.held) 11 ∷ [])

pub range_first_wrong : (range_first (holding 3) two (order 0 2 36) ≡ 15) × (store_no (holding 3) two (order 0 2 36) ≡ 11)
unfolding store_no store_no_at is_known key_in same_form form_ok id_ok edition_ok first given
range_first_wrong = (refl, refl)

-- A size out of range is refused by 15. The size is no part of the key. [I14]
abbrev size_too : Form → Bool
size_too f = form_ok f && size_ok f.grid f.size

pub size_too_wrong : (size_too (order 5 1 8000000000000000001) ≡ false) × (form_ok (order 5 1 8000000000000000001) ≡ true)
unfolding form_ok id_ok edition_ok size_ok
size_too_wrong = (refl, refl)

-- The editions and the ids are looked at and the contractor is not. 15 "for a form with any part of its key out of range". [I14]
abbrev any_contractor : Form → Bool
any_contractor f = edition_ok f.p_edition && edition_ok f.q_edition && id_ok f.q && id_ok f.p

pub any_contractor_wrong : (any_contractor (form false 3 false 5 1 16) ≡ true) × (form_ok (form false 3 false 5 1 16) ≡ false)
unfolding form_ok id_ok edition_ok
any_contractor_wrong = (refl, refl)

-- A form that lies in a slot past the held ones is known. "`known` for a key it holds". [I5]
pub past_known_wrong : (key_in two (order 5 2 36) ≡ true) × ((stored (holding 1) two (order 5 2 36)).outcome ≡ Ok Issued)
unfolding stored verdict judged store_no_at is_known key_in same_form form_ok id_ok edition_ok first given answer
past_known_wrong = (refl, refl)

-- The newest stands first. "its slice holds the forms in the order in which each key was first taken". [I10]
abbrev newest_first : List Form → Form → List Form
newest_first l f = take (length l) (f ∷ l)

pub newest_first_wrong : (newest_first two (order 6 2 37) ≡ order 6 2 37 ∷ order 5 1 16 ∷ []) × (stored_slots (holding 1) two (order 6 2 37) ≡ order 5 1 16 ∷ order 6 2 37 ∷ [])
unfolding stored_slots verdict judged store_no_at is_known key_in same_form form_ok id_ok edition_ok first given answer
newest_first_wrong = (refl, refl)

-- A key is issued again. "The depot never holds two forms with one key." [I6, I9]
abbrev issued_again : Depot → List Form → Form → List Form
issued_again d l f = set l d.held f

abbrev one_key : List Form → Bool
one_key l = same_form (get_or l 0 (order 1 1 1)) (get_or l 1 (order 2 2 2))

pub issued_again_wrong : (one_key (issued_again (holding 1) two (order 5 1 16)) ≡ true) × (one_key (stored_slots (holding 1) two (order 5 1 16)) ≡ false)
unfolding stored_slots verdict judged store_no_at is_known key_in same_form form_ok id_ok edition_ok first given answer
issued_again_wrong = (refl, refl)

abbrev is_new : Result Receipt ℕ → Bool
is_new (Ok Issued) = true
is_new (Ok Known) = false
is_new (Err n) = false

-- A depot that says `known` to all. [I5]
pub known_to_all_wrong : (stored (holding 0) two (order 5 1 16)).outcome ≡ Ok Known → ⊥
unfolding stored verdict judged store_no_at is_known key_in same_form form_ok id_ok edition_ok first given answer
known_to_all_wrong e = true≢false (ap is_new e)

-- ---- making forms

abbrev book : ℕ → Book
book n = record { held = n; closed = false; source = source 0 }

abbrev pairs : List Pair
pairs = to 5 1 16 ∷ to 5 2 36 ∷ []

-- 16 before 11. "Making forms: 11, then 16 for too few slots." [I16]
abbrev places_first : Book → ℕ → ℕ → ℕ
places_first b len room = first (given (ltb room b.held) 16 ∷ given (ltb len b.held) 11 ∷ [])

pub places_first_wrong : (places_first (book 3) 2 2 ≡ 16) × (forms_no (book 3) 2 2 ≡ 11)
unfolding forms_no first given
places_first_wrong = (refl, refl)

-- 16 where the forms just fit. "16 for too few slots". [I16]
abbrev just_fits : Book → ℕ → ℕ
just_fits b room = given (leb room b.held) 16

pub forms_just_fit_wrong : (just_fits (book 2) 2 ≡ 16) × (forms_no (book 2) 2 2 ≡ 0)
unfolding forms_no first given
forms_just_fit_wrong = (refl, refl)

-- The pump house in the chamber's place. "one order form per held pair", with the pair's ids. [I1]
abbrev form_turned : Pair → Form
form_turned v = order v.p v.p v.size

pub form_turned_wrong : ((form_turned (to 5 1 16)).q ≡ 1) × ((form_of (source 0) (to 5 1 16)).q ≡ 5)
unfolding form_of
form_turned_wrong = (refl, refl)

-- A form for each slot, held or not. "one order form per held pair". [I1]
pub each_slot_wrong : (map (form_of (source 0)) pairs ≡ order 5 1 16 ∷ order 5 2 36 ∷ []) × (forms_of (book 1) pairs ≡ order 5 1 16 ∷ [])
unfolding forms_of form_of
each_slot_wrong = (refl, refl)

-- An open book makes no forms. "one order form per held pair", of an open book too. [I1]
abbrev closed_only : Book → ℕ
closed_only b = given (not b.closed) 12

pub closed_only_wrong : (closed_only (book 1) ≡ 12) × (forms_no (book 1) 2 2 ≡ 0)
unfolding forms_no first given
closed_only_wrong = (refl, refl)

-- The places past the forms are cleared. "in a lent slice": the rest of it isn't touched. [I2]
abbrev old : List Form
old = order 8 8 8 ∷ order 9 9 9 ∷ []

abbrev places_cleared : Book → List Form
places_cleared b = forms_of b pairs ++ replicate (length old - b.held) (order 0 0 0)

pub places_cleared_wrong : (places_cleared (book 1) ≡ order 5 1 16 ∷ order 0 0 0 ∷ []) × (forms_out (book 1) pairs old ≡ order 5 1 16 ∷ order 9 9 9 ∷ [])
unfolding forms_out forms_of form_of forms_no first given answer
places_cleared_wrong = (refl, refl)

-- The orders under a book's editions, kind, contractor and profile are those of its own t. They are those of the full list, of which another book may be: the t is in no form.
-- [I12]
pub t_alone_wrong :
    (list_for (with_t 3) [] pumps chambers ≡ []) × (list_for (with_t 0) [] pumps chambers ≡ to 5 1 16 ∷ to 5 2 36 ∷ to 6 2 37 ∷ []) × (form_of (source 0) (to 5 1 16) ≡ form_of (source 3) (to 5 1 16))
unfolding form_of list_for listed_for pair_for at_least list_by rows row ring_pair_by unblocked all_b same_spot blocks
t_alone_wrong = (refl, refl, refl)
