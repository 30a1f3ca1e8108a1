-- What an answer of the depot means, of every state and slice: `known` and a refusal change nothing, `issued` puts the form behind the held ones. And one input, one answer.
--     judging                                    a form is issued, known or refused, and what was found of it
--     known_same, issued_last, refused_leaves      what each of the three leaves
--     not_taken                                  a number that is not 0 is refused, and nothing changes
--     eleven, fifteen, sixteen                   when each number is given: "16 exactly for a new key with no slot left"
--     stored_no, forms_no_lem                          the number of an answer is the one that is defined
--     forms_made, forms_refused                  the forms that are made, and what a refusal leaves
--     depot_take_once, depot_forms_once, ..                  one input, one answer, one final state of what was lent
-- Assumes nothing.
use mathlib.Core.Path.{◌≡◌, refl, sym, ap, ◌∙◌}
use mathlib.Core.Bool.{Bool, true, false, cond, not, ◌&&◌, true≢false}
use mathlib.Core.Logic.{◌↔◌}
use mathlib.Core.List.{List, [], ◌∷◌, ◌++◌}
use Prim.Native.Nat.{ℕ, suc, ◌+◌, ◌≤◌, ◌<◌}
use native.Mathlib.Omega.{arith}
use native.Mathlib.Numerals.{add-one}
use lib.Dec.{eqb, ltb, leb}
use lib.ListN.{length, take, drop, set, length-set}
use lib.Seq.{take-suc-set}
use borrow.Author.Tests.{ltb-true, ltb-false, lt-ltb, le-ltb, le-leb, leb-true, leb-false}
use Rattle.std.specs.Prelude.{Result, Ok, Err}
use Rattle.std.specs.Result.{result_eq}
use Rattle.words.specs.First.{given, first}
use Rattle.words.proofs.FirstLaws.{answer_number, answer_given, answer_refused}
use Rattle.list.specs.declared.Pair.{Pair}
use Rattle.book.specs.declared.Book.{Book}
use Rattle.depot.specs.declared.Form.{Form}
use Rattle.depot.specs.declared.Made.{Made}
use Rattle.depot.specs.declared.MadeArray.{MadeArray}
use Rattle.depot.specs.declared.Depot.{Depot}
use Rattle.depot.specs.declared.Receipt.{Receipt}
use Rattle.depot.specs.declared.Receipt.TheVariants.{Issued, Known}
use Rattle.depot.specs.declared.Stored.{Stored}
use Rattle.depot.specs.declared.StoredArray.{StoredArray}
use Rattle.depot.specs.Forms.{forms_no, none_made, all_made, made_for, forms_answer, forms_of, forms_out, made_array}
use Rattle.depot.specs.Depot.{Verdict, form_ok, store_no_at, issues, knows, refuses, judged, is_known, store_no, verdict, stored, stored_slots, outcome_no, stored_array}

-- ---- the number

pub data Numbered (d : Depot) (slots : List Form) (f : Form) : ℕ → Type 0 where
  is_11 : length slots < d.held → Numbered d slots f 11
  is_15 : d.held ≤ length slots → form_ok f ≡ false → Numbered d slots f 15
  is_16 : d.held ≤ length slots → form_ok f ≡ true → is_known d slots f ≡ false → length slots ≤ d.held → Numbered d slots f 16
  is_known_lem : d.held ≤ length slots → form_ok f ≡ true → is_known d slots f ≡ true → Numbered d slots f 0
  is_new : form_ok f ≡ true → is_known d slots f ≡ false → d.held < length slots → Numbered d slots f 0

-- the number, with what was found of the form
pub numbered : (d : Depot) (slots : List Form) (f : Form) → Numbered d slots f (store_no d slots f)
unfolding store_no store_no_at first given
numbered d slots f = go (ltb (length slots) d.held) (form_ok f) (is_known d slots f) (leb (length slots) d.held) refl refl refl refl
  where
    go : (s t u v : Bool) → ltb (length slots) d.held ≡ s → form_ok f ≡ t → is_known d slots f ≡ u → leb (length slots) d.held ≡ v
        → Numbered d slots f (first (given s 11 ∷ given (not t) 15 ∷ given (not u && v) 16 ∷ []))
    go true t u v es et eu ev = is_11 (ltb-true (length slots) d.held es)
    go false false u v es et eu ev = is_15 (ltb-false (length slots) d.held es) et
    go false true true v es et eu ev = is_known_lem (ltb-false (length slots) d.held es) et eu
    go false true false true es et eu ev = is_16 (ltb-false (length slots) d.held es) et eu (leb-true (length slots) d.held ev)
    go false true false false es et eu ev = is_new et eu (leb-false (length slots) d.held ev)

-- 11 where more is held than there are slots; then 15 for a key out of range; then "16 exactly for a new key with no slot left"
module _ (d : Depot) (slots : List Form) (f : Form) where
  pub eleven : (store_no d slots f ≡ 11) ↔ (length slots < d.held)
  unfolding store_no store_no_at first given
  eleven = (λ e. found _ (numbered d slots f) e, λ h. rw (lt-ltb (length slots) d.held h))
    where
      found : (n : ℕ) → Numbered d slots f n → n ≡ 11 → length slots < d.held
      found _ (is_11 h) e = h
      found _ (is_15 h o) e = absurd (omega arith)
      found _ (is_16 h o k g) e = absurd (omega arith)
      found _ (is_known_lem h o k) e = absurd (omega arith)
      found _ (is_new o k h) e = absurd (omega arith)

  pub fifteen : (store_no d slots f ≡ 15) ↔ ((d.held ≤ length slots) × (form_ok f ≡ false))
  unfolding store_no store_no_at first given
  fifteen = (λ e. found _ (numbered d slots f) e, λ h. rw (le-ltb (length slots) d.held h.0, h.1))
    where
      found : (n : ℕ) → Numbered d slots f n → n ≡ 15 → (d.held ≤ length slots) × (form_ok f ≡ false)
      found _ (is_11 h) e = absurd (omega arith)
      found _ (is_15 h o) e = (h, o)
      found _ (is_16 h o k g) e = absurd (omega arith)
      found _ (is_known_lem h o k) e = absurd (omega arith)
      found _ (is_new o k h) e = absurd (omega arith)

  pub sixteen : (store_no d slots f ≡ 16) ↔ ((d.held ≡ length slots) × (form_ok f ≡ true) × (is_known d slots f ≡ false))
  unfolding store_no store_no_at first given
  sixteen = (λ e. found _ (numbered d slots f) e, λ h. let g : d.held ≡ length slots = h.0 in rw (le-ltb (length slots) d.held (omega arith), h.1, h.2, le-leb (length slots) d.held (omega arith)))
    where
      found : (n : ℕ) → Numbered d slots f n → n ≡ 16 → (d.held ≡ length slots) × (form_ok f ≡ true) × (is_known d slots f ≡ false)
      found _ (is_11 h) e = absurd (omega arith)
      found _ (is_15 h o) e = absurd (omega arith)
      found _ (is_16 h o k g) e = (omega arith, o, k)
      found _ (is_known_lem h o k) e = absurd (omega arith)
      found _ (is_new o k h) e = absurd (omega arith)

-- ---- what each outcome leaves

-- a form is judged in one of three ways
pub data Judged (d : Depot) (slots : List Form) (f : Form) : Type 0 where
  -- a new key, in range, and a slot for it
  new : verdict d slots f ≡ issues d → d.held < length slots → form_ok f ≡ true → is_known d slots f ≡ false → Judged d slots f
  -- a key in range that is held
  known : verdict d slots f ≡ knows d → d.held ≤ length slots → form_ok f ≡ true → is_known d slots f ≡ true → Judged d slots f
  -- a refusal
  no : verdict d slots f ≡ refuses d (store_no d slots f) → (store_no d slots f ≡ 0 → ⊥) → Judged d slots f

pub judging : (d : Depot) (slots : List Form) (f : Form) → Judged d slots f
unfolding verdict judged store_no
judging d slots f = go _ (numbered d slots f) refl
  where
    go : (n : ℕ) → Numbered d slots f n → store_no d slots f ≡ n → Judged d slots f
    go _ (is_11 h) e = no (answer_refused _ _ _ _ refl (λ z. omega arith)) (λ z. omega arith)
    go _ (is_15 h o) e = no (answer_refused _ _ _ _ refl (λ z. omega arith)) (λ z. omega arith)
    go _ (is_16 h o k g) e = no (answer_refused _ _ _ _ refl (λ z. omega arith)) (λ z. omega arith)
    go _ (is_known_lem h o k) e = known (answer_given _ _ _ e ∙ ap (λ (x : Bool). cond x (knows d) (issues d)) k) h o k
    go _ (is_new o k h) e = new (answer_given _ _ _ e ∙ ap (λ (x : Bool). cond x (knows d) (issues d)) k) h o k

module _ (d : Depot) (slots : List Form) (f : Form) where
  answered : (v : Verdict) → verdict d slots f ≡ v → stored d slots f ≡ v.stored
  unfolding stored
  answered v e = ap (λ (x : Verdict). x.stored) e

  left : (v : Verdict) → verdict d slots f ≡ v → stored_slots d slots f ≡ cond v.stores (set slots d.held f) slots
  unfolding stored_slots
  left v e = ap (λ (x : Verdict). cond x.stores (set slots d.held f) slots) e

  -- "`known` for a key it holds, changing nothing then"
  pub known_same : (stored d slots f).outcome ≡ Ok Known
      → (is_known d slots f ≡ true) × (form_ok f ≡ true) × (d.held ≤ length slots) × ((stored d slots f).depot ≡ d) × (stored_slots d slots f ≡ slots)
  known_same e = go (judging d slots f)
    where
      go : Judged d slots f → (is_known d slots f ≡ true) × (form_ok f ≡ true) × (d.held ≤ length slots) × ((stored d slots f).depot ≡ d) × (stored_slots d slots f ≡ slots)
      go (new v h o k) = let z = ap (λ (x : Stored). x.outcome) (answered _ v) in let y : ◌≡◌ {A = ℕ} 0 1 = cc in absurd (omega arith)
      go (known v h o k) = (k, o, h, ap (λ (x : Stored). x.depot) (answered _ v), left _ v)
      go (no v n) = let z = ap (λ (x : Stored). x.outcome) (answered _ v) in let y : ◌≡◌ {A = ℕ} 0 1 = cc in absurd (omega arith)

  -- "answers `issued` for a new key": the form is the last of one more that are held, and those before it are as they were
  pub issued_last : (stored d slots f).outcome ≡ Ok Issued
      → (is_known d slots f ≡ false) × (form_ok f ≡ true) × (d.held < length slots) × ((stored d slots f).depot.held ≡ suc d.held) × (stored_slots d slots f ≡ set slots d.held f)
      × (take (suc d.held) (stored_slots d slots f) ≡ take d.held slots ++ (f ∷ []))
  issued_last e = go (judging d slots f)
    where
      go : Judged d slots f
          → (is_known d slots f ≡ false) × (form_ok f ≡ true) × (d.held < length slots) × ((stored d slots f).depot.held ≡ suc d.held) × (stored_slots d slots f ≡ set slots d.held f)
          × (take (suc d.held) (stored_slots d slots f) ≡ take d.held slots ++ (f ∷ []))
      go (new v h o k) = (k, o, h, ap (λ (x : Stored). x.depot.held) (answered _ v) ∙ add-one d.held, left _ v, ap (take (suc d.held)) (left _ v) ∙ take-suc-set slots d.held f h)
      go (known v h o k) = let z = ap (λ (x : Stored). x.outcome) (answered _ v) in let y : ◌≡◌ {A = ℕ} 0 1 = cc in absurd (omega arith)
      go (no v n) = let z = ap (λ (x : Stored). x.outcome) (answered _ v) in let y : ◌≡◌ {A = ℕ} 0 1 = cc in absurd (omega arith)

  -- a refusal has the number that is defined, and changes nothing
  pub refused_leaves : (n : ℕ) → (stored d slots f).outcome ≡ Err n → (n ≡ store_no d slots f) × ((stored d slots f).depot ≡ d) × (stored_slots d slots f ≡ slots)
  refused_leaves n e = go (judging d slots f)
    where
      go : Judged d slots f → (n ≡ store_no d slots f) × ((stored d slots f).depot ≡ d) × (stored_slots d slots f ≡ slots)
      go (new v h o k) = let z = ap (λ (x : Stored). x.outcome) (answered _ v) in let y : ◌≡◌ {A = ℕ} 0 1 = cc in absurd (omega arith)
      go (known v h o k) = let z = ap (λ (x : Stored). x.outcome) (answered _ v) in let y : ◌≡◌ {A = ℕ} 0 1 = cc in absurd (omega arith)
      go (no v m) = let z = ap (λ (x : Stored). x.outcome) (answered _ v) in (cc, ap (λ (x : Stored). x.depot) (answered _ v), left _ v)

  -- the number of the answer is the one that is defined
  pub stored_no : outcome_no (stored d slots f).outcome ≡ store_no d slots f
  unfolding outcome_no stored verdict judged store_no
  stored_no =
      answer_number (cond (is_known d slots f) (knows d) (issues d)) (refuses d) (λ (v : Verdict). outcome_no v.stored.outcome) (zero_of (is_known d slots f)) (λ k. refl) (store_no_at d (length slots) f (is_known d slots f))
    where
      zero_of : (k : Bool) → outcome_no (cond k (knows d) (issues d)).stored.outcome ≡ 0
      zero_of true = refl
      zero_of false = refl

  -- where the number is not 0 the answer is its refusal, and nothing has changed
  pub not_taken : (store_no d slots f ≡ 0 → ⊥) → ((stored d slots f).outcome ≡ Err (store_no d slots f)) × ((stored d slots f).depot ≡ d) × (stored_slots d slots f ≡ slots)
  unfolding outcome_no
  not_taken ne = go (judging d slots f)
    where
      go : Judged d slots f → ((stored d slots f).outcome ≡ Err (store_no d slots f)) × ((stored d slots f).depot ≡ d) × (stored_slots d slots f ≡ slots)
      go (new v h o k) = absurd (ne (sym stored_no ∙ ap (λ (x : Stored). outcome_no x.outcome) (answered _ v)))
      go (known v h o k) = absurd (ne (sym stored_no ∙ ap (λ (x : Stored). outcome_no x.outcome) (answered _ v)))
      go (no v m) = (ap (λ (x : Stored). x.outcome) (answered _ v), ap (λ (x : Stored). x.depot) (answered _ v), left _ v)

  -- the answer and the slots where the form is not issued, and where it is
  pub kept : (o : Result Receipt ℕ) → o ≡ (stored d slots f).outcome → (o ≡ Ok Issued → ⊥) → (record { outcome = o; depot = d } ≡ stored d slots f) × (slots ≡ stored_slots d slots f)
  kept (Ok Issued) e ne = absurd (ne refl)
  kept (Ok Known) e ne = let z = known_same (sym e) in (λ i. record { outcome = e i; depot = sym z.3 i }, sym z.4)
  kept (Err n) e ne = let z = refused_leaves n (sym e) in (λ i. record { outcome = e i; depot = sym z.1 i }, sym z.2)

  pub put : (o : Result Receipt ℕ) → o ≡ (stored d slots f).outcome → o ≡ Ok Issued
      → (d.held < length slots) × (record { outcome = o; depot = record { held = d.held + 1 } } ≡ stored d slots f) × (set slots d.held f ≡ stored_slots d slots f)
  put o e h =
      let z = issued_last (sym e ∙ h) in
      let more : d.held + 1 ≡ (stored d slots f).depot.held = add-one d.held ∙ sym z.3 in
      (z.2, λ i. record { outcome = e i; depot = record { held = more i } }, sym z.4)

  -- no slot is made, and none lost
  pub stored_long : length (stored_slots d slots f) ≡ length slots
  unfolding stored_slots
  stored_long = go (verdict d slots f).stores
    where
      go : (t : Bool) → length (cond t (set slots d.held f) slots) ≡ length slots
      go true = length-set slots d.held f
      go false = refl

-- whether a form is issued, as the code tests it
pub is_issued : (q : Receipt → Receipt → Bool) (o : Result Receipt ℕ) → q Known Issued ≡ false → true ≡ result_eq q eqb o (Ok Issued) → o ≡ Ok Issued
is_issued q (Ok Issued) k e = refl
is_issued q (Ok Known) k e = absurd (true≢false (e ∙ k))
is_issued q (Err n) k e = absurd (true≢false e)

pub not_issued : (q : Receipt → Receipt → Bool) (o : Result Receipt ℕ) → q Issued Issued ≡ true → false ≡ result_eq q eqb o (Ok Issued) → o ≡ Ok Issued → ⊥
not_issued q o k e h = true≢false (sym k ∙ sym (e ∙ ap (λ (x : Result Receipt ℕ). result_eq q eqb x (Ok Issued)) h))

-- ---- making forms

module _ (b : Book) (slots : List Pair) (out : List Form) where
  pub forms_no_lem : (forms_answer b slots out).number ≡ forms_no b (length slots) (length out)
  unfolding forms_answer made_for
  forms_no_lem = answer_number (all_made b) none_made (λ (m : Made). m.number) refl (λ k. refl) (forms_no b (length slots) (length out))

  -- "one order form per held pair": they stand first, and the rest isn't touched
  pub forms_made : (forms_answer b slots out).number ≡ 0 → ((forms_answer b slots out).count ≡ b.held) × (forms_out b slots out ≡ forms_of b slots ++ drop b.held out)
  unfolding forms_answer made_for forms_out
  forms_made e = let z = sym forms_no_lem ∙ e in (ap (λ (m : Made). m.count) (answer_given _ _ _ z), answer_given _ _ _ z)

  pub forms_refused : ((forms_answer b slots out).number ≡ 0 → ⊥) → ((forms_answer b slots out).count ≡ 0) × (forms_out b slots out ≡ out)
  unfolding forms_answer made_for forms_out
  forms_refused ne =
      let z : forms_no b (length slots) (length out) ≡ 0 → ⊥ = λ y. ne (forms_no_lem ∙ y) in
      (ap (λ (m : Made). m.count) (answer_refused _ _ _ _ refl z), answer_refused _ _ _ _ refl z)

  -- they are made where the book's slots are there, and room for as many forms
  pub forms_given : b.held ≤ length slots → b.held ≤ length out → (forms_answer b slots out).number ≡ 0
  forms_given h g = forms_no_lem ∙ number_0
    where
      number_0 : forms_no b (length slots) (length out) ≡ 0
      number_0 = unfold forms_no first given in rw (le-ltb (length slots) b.held h, le-ltb (length out) b.held g)

-- ---- one input, one answer, one final state of what was lent

pub depot_take_once : (d : Depot) (s : List Form) (f : Form) (r r' : Stored) (t t' : List Form)
    → (r ≡ stored d s f) × (t ≡ stored_slots d s f) → (r' ≡ stored d s f) × (t' ≡ stored_slots d s f) → (r ≡ r') × (t ≡ t')
depot_take_once d s f r r' t t' x y = (x.0 ∙ sym y.0, x.1 ∙ sym y.1)

pub depot_forms_once : (b : Book) (s : List Pair) (o : List Form) (r r' : Made) (t t' : List Form)
    → (r ≡ forms_answer b s o) × (t ≡ forms_out b s o) → (r' ≡ forms_answer b s o) × (t' ≡ forms_out b s o) → (r ≡ r') × (t ≡ t')
depot_forms_once b s o r r' t t' x y = (x.0 ∙ sym y.0, x.1 ∙ sym y.1)

pub depot_take_array_once : (s : List Form) (len : ℕ) (d : Depot) (f : Form) (r r' : StoredArray) → r ≡ stored_array s len d f → r' ≡ stored_array s len d f → r ≡ r'
depot_take_array_once s len d f r r' x y = x ∙ sym y

pub depot_forms_array_once : (s : List Pair) (len : ℕ) (o : List Form) (room : ℕ) (b : Book) (r r' : MadeArray) → r ≡ made_array s len o room b → r' ≡ made_array s len o room b → r ≡ r'
depot_forms_array_once s len o room b r r' x y = x ∙ sym y
