-- The depot: "The depot takes forms into a lent slice and answers `issued` for a new key, `known` for a key it holds, changing nothing then."
use Rattle.std.specs.Prelude.{Bool, true, false, cond, not, ◌&&◌, ◌||◌, List, [], ◌∷◌, ◌++◌, ℕ, ◌+◌, eqb, leb, ltb, length, take, drop, set, Result, Ok, Err}
use Rattle.words.specs.Range.{id_ok, edition_ok}
use Rattle.words.specs.First.{given, first, answer}
use Rattle.list.specs.Lent.{lent_of}
use Rattle.list.specs.Pages.{alike}
use Rattle.depot.specs.declared.Form.{Form}
use Rattle.depot.specs.declared.Depot.{Depot}
use Rattle.depot.specs.declared.Receipt.{Receipt}
use Rattle.depot.specs.declared.Receipt.TheVariants.{Issued, Known}
use Rattle.depot.specs.declared.Stored.{Stored}
use Rattle.depot.specs.declared.StoredArray.{StoredArray}

-- ---- begin

-- "the depot is begun empty" [I7]
unfoldable pub begun_depot : Depot
begun_depot = record { held = 0 }

-- ---- the key

-- "its key being both editions, kind, contractor, profile and the two ids": two forms have one key. The size is no part of it. [I3, I4, I9]
unfoldable pub same_form : Form → Form → Bool
same_form f g =
    eqb f.p_edition g.p_edition
    && eqb f.q_edition g.q_edition
    && alike f.own g.own
    && eqb f.contractor g.contractor
    && alike f.grid g.grid
    && eqb f.q g.q
    && eqb f.p g.p

-- one of these forms has the key of f [I3]
unfoldable pub key_in : List Form → Form → Bool
key_in [] f = false
key_in (g ∷ l) f = same_form g f || key_in l f

-- 0, 1, or 2 for an undivided list
abbrev pub last_contractor : ℕ
last_contractor = 2

-- 15 "for a form with any part of its key out of range", where this is false: each part alone. The kind and the profile have no range, and the size is no part of the key. [I14]
unfoldable pub form_ok : Form → Bool
form_ok f = edition_ok f.p_edition && edition_ok f.q_edition && leb f.contractor last_contractor && id_ok f.q && id_ok f.p

-- ---- taking a form

-- "Refusals, in this order: 11 as for a book, 15 for a form with any part of its key out of range, 16 exactly for a new key with no slot left": for a slice of `len` slots, and
-- a form whose key is known or not [I14, I15]
unfoldable pub store_no_at : Depot → ℕ → Form → Bool → ℕ
store_no_at d len f known =
    first
    (given (ltb len d.held) 11
    ∷ given (not (form_ok f)) 15
    ∷ given (not known && leb len d.held) 16
    ∷ [])

-- whether the form is stored, and the answer
pub record Verdict : Type 0 where
  pub stores : Bool
  pub stored : Stored

abbrev pub decides : Bool → Result Receipt ℕ → Depot → Verdict
decides stores outcome d = record { stores = stores; stored = record { outcome = outcome; depot = d } }

-- a new key: the form is stored, and one more is held [I5]
abbrev pub issues : Depot → Verdict
issues d = decides true (Ok Issued) (record { held = d.held + 1 })

-- "`known` for a key it holds, changing nothing then" [I6]
abbrev pub knows : Depot → Verdict
knows d = decides false (Ok Known) d

-- "Every refusal gives only its number", and changes nothing
abbrev pub refuses : Depot → ℕ → Verdict
refuses d n = decides false (Err n) d

-- [I5, I6]
unfoldable pub judged : Depot → ℕ → Form → Bool → Verdict
judged d len f known = answer (store_no_at d len f known) (cond known (knows d) (issues d)) (refuses d)

-- the depot holds the key of f, in these slots [I6]
unfoldable pub is_known : Depot → List Form → Form → Bool
is_known d slots f = key_in (take d.held slots) f

-- the number of refusal of a form, 0 where it is taken or known, of any state and slice [I14, I15]
unfoldable pub store_no : Depot → List Form → Form → ℕ
store_no d slots f = store_no_at d (length slots) f (is_known d slots f)

unfoldable pub verdict : Depot → List Form → Form → Verdict
verdict d slots f = judged d (length slots) f (is_known d slots f)

-- the answer of `take`: "answers `issued` for a new key, `known` for a key it holds" [I5, I6]
unfoldable pub stored : Depot → List Form → Form → Stored
stored d slots f = (verdict d slots f).stored

-- the slots after it: an issued form stands behind the held ones, and every other slot is as it was; else nothing has changed [I5, I6]
unfoldable pub stored_slots : Depot → List Form → Form → List Form
stored_slots d slots f = cond (verdict d slots f).stores (set slots d.held f) slots

-- the document's number for each outcome
unfoldable pub outcome_no : Result Receipt ℕ → ℕ
outcome_no (Ok r) = 0
outcome_no (Err n) = n

-- ---- a part of an array, lent

abbrev pub with_slots : List Form → Stored → StoredArray
with_slots slots s = record { slots = slots; stored = s }

-- `take` on the first so many of 64 slots: the others are as they were
unfoldable pub stored_array : List Form → ℕ → Depot → Form → StoredArray
stored_array slots len d f =
    with_slots (stored_slots d (take (lent_of 64 len) slots) f ++ drop (lent_of 64 len) slots) (stored d (take (lent_of 64 len) slots) f)
