-- Each key once, in the order first met; and what is handed in, issued and taken when one form more is handed in.
-- Assumes nothing.
use mathlib.Core.Path.{◌≡◌, refl, sym, ap, ap₂, ◌∙◌}
use mathlib.Core.Bool.{Bool, true, false, cond, ◌||◌}
use mathlib.Core.List.Memᴰ
use mathlib.Core.List.{List, [], ◌∷◌, ◌++◌, append_assoc, Memᴰ}
use mathlib.Core.Logic.{⊎_elim}
use Prim.Native.Nat.{ℕ, zero, suc, ◌≤◌, ◌<◌}
use native.Mathlib.Omega.{arith}
use lib.ListN.{length, get_or, length-append}
use Rattle.std.specs.Prelude.{Result, Ok, Err}
use Rattle.integers.proofs.Bools.{clash}
use Rattle.depot.specs.declared.Receipt.{Receipt}
use Rattle.depot.specs.declared.Receipt.TheVariants.{Issued, Known}
use Rattle.depot.specs.declared.Form.{Form}
use Rattle.depot.specs.Depot.{same_form, key_in}
use Rattle.depot.proofs.KeyLaws.{same_turned, same_with, in_keys, keys_in}
use Rattle.orders.specs.Firsts.{without, firsts}
use Rattle.orders.specs.Deliveries.{Handed, handed_in, if_issued, if_taken, issued_of, taken_of}

or_none : (x y : Bool) → (x || y) ≡ false → (x ≡ false) × (y ≡ false)
or_none true y e = clash refl e
or_none false y e = (refl, e)

-- ---- without a key

without_append : (f : Form) (a b : List Form) → without f (a ++ b) ≡ without f a ++ without f b
unfolding without
without_append f [] b = refl
without_append f (g ∷ a) b = go (same_form f g) (without_append f a b)
  where
    go : (t : Bool) → without f (a ++ b) ≡ without f a ++ without f b → cond t (without f (a ++ b)) (g ∷ without f (a ++ b)) ≡ cond t (without f a) (g ∷ without f a) ++ without f b
    go true e = e
    go false e = ap (λ (l : List Form). g ∷ l) e

-- another key stays
key_without : (g f : Form) (l : List Form) → same_form g f ≡ false → key_in (without g l) f ≡ key_in l f
unfolding without key_in
key_without g f [] ne = refl
key_without g f (h ∷ l) ne = go (same_form g h) refl (key_without g f l ne)
  where
    go : (t : Bool) → same_form g h ≡ t → key_in (without g l) f ≡ key_in l f → key_in (cond t (without g l) (h ∷ without g l)) f ≡ (same_form h f || key_in l f)
    go true s e = let z : same_form h f ≡ false = sym (same_with g h f s) ∙ ne in e ∙ sym (ap (λ (x : Bool). x || key_in l f) z)
    go false s e = ap (λ (x : Bool). same_form h f || x) e

-- its own is gone
without_gone : (g : Form) (l : List Form) → key_in (without g l) g ≡ false
unfolding without key_in
without_gone g [] = refl
without_gone g (h ∷ l) = go (same_form g h) refl (without_gone g l)
  where
    go : (t : Bool) → same_form g h ≡ t → key_in (without g l) g ≡ false → key_in (cond t (without g l) (h ∷ without g l)) g ≡ false
    go true s e = e
    go false s e = ap₂ ◌||◌ (same_turned h g ∙ s) e

-- what was not there is not there
without_less : (g f : Form) (l : List Form) → key_in l f ≡ false → key_in (without g l) f ≡ false
unfolding without key_in
without_less g f [] ne = refl
without_less g f (h ∷ l) ne = let z = or_none (same_form h f) (key_in l f) ne in go (same_form g h) z.0 (without_less g f l z.1)
  where
    go : (t : Bool) → same_form h f ≡ false → key_in (without g l) f ≡ false → key_in (cond t (without g l) (h ∷ without g l)) f ≡ false
    go true s e = e
    go false s e = ap₂ ◌||◌ s e

-- ---- each key once

-- the same keys
pub key_firsts : (l : List Form) (f : Form) → key_in (firsts l) f ≡ key_in l f
unfolding firsts key_in
key_firsts [] f = refl
key_firsts (g ∷ l) f = go (same_form g f) refl (key_firsts l f)
  where
    go : (t : Bool) → same_form g f ≡ t → key_in (firsts l) f ≡ key_in l f → (t || key_in (without g (firsts l)) f) ≡ (t || key_in l f)
    go true s e = refl
    go false s e = key_without g f (firsts l) s ∙ e

pub append_none : (l : List Form) → l ++ [] ≡ l
append_none [] = refl
append_none (f ∷ l) = ap (λ (m : List Form). f ∷ m) (append_none l)

without_last : (g f : Form) (m : List Form) (t : Bool) → same_form g f ≡ t → without g (m ++ (f ∷ [])) ≡ cond t (without g m) (without g m ++ (f ∷ []))
without_last g f m true s = without_append g m (f ∷ []) ∙ (unfold without in rw s (append_none (without g m)))
without_last g f m false s = without_append g m (f ∷ []) ∙ (unfold without in rw s)

-- one form more is put last, where its key is new
pub firsts_more : (l : List Form) (f : Form) → firsts (l ++ (f ∷ [])) ≡ cond (key_in l f) (firsts l) (firsts l ++ (f ∷ []))
unfolding firsts key_in without
firsts_more [] f = refl
firsts_more (g ∷ l) f = ap (λ (m : List Form). g ∷ without g m) (firsts_more l f) ∙ go (key_in l f) (same_form g f) refl
  where
    go : (u t : Bool) → same_form g f ≡ t → (g ∷ without g (cond u (firsts l) (firsts l ++ (f ∷ [])))) ≡ cond (t || u) (g ∷ without g (firsts l)) (g ∷ (without g (firsts l) ++ (f ∷ [])))
    go true true s = refl
    go true false s = refl
    go false true s = ap (λ (m : List Form). g ∷ m) (without_last g f (firsts l) true s)
    go false false s = ap (λ (m : List Form). g ∷ m) (without_last g f (firsts l) false s)

pub firsts_new : (l : List Form) (f : Form) → key_in l f ≡ false → firsts (l ++ (f ∷ [])) ≡ firsts l ++ (f ∷ [])
firsts_new l f e = firsts_more l f ∙ ap (λ (t : Bool). cond t (firsts l) (firsts l ++ (f ∷ []))) e

pub firsts_known : (l : List Form) (f : Form) → key_in l f ≡ true → firsts (l ++ (f ∷ [])) ≡ firsts l
firsts_known l f e = firsts_more l f ∙ ap (λ (t : Bool). cond t (firsts l) (firsts l ++ (f ∷ []))) e

pub firsts_grow : (l : List Form) (f : Form) → length (firsts l) ≤ length (firsts (l ++ (f ∷ [])))
firsts_grow l f = omega (arith, ap length (firsts_more l f), go (key_in l f))
  where
    go : (t : Bool) → length (firsts l) ≤ length (cond t (firsts l) (firsts l ++ (f ∷ [])))
    go true = omega arith
    go false = omega (arith, length-append (firsts l) (f ∷ []))

-- no more than were met
without_few : (g : Form) (l : List Form) → length (without g l) ≤ length l
unfolding without
without_few g [] = omega arith
without_few g (h ∷ l) = go (same_form g h) (without_few g l)
  where
    go : (t : Bool) → length (without g l) ≤ length l → length (cond t (without g l) (h ∷ without g l)) ≤ suc (length l)
    go true e = omega (arith, e)
    go false e = omega (arith, e)

pub firsts_few : (l : List Form) → length (firsts l) ≤ length l
unfolding firsts
firsts_few [] = omega arith
firsts_few (f ∷ l) = omega (arith, without_few f (firsts l), firsts_few l)

-- no key stands twice
abbrev Apart : List Form → Type 0
Apart [] = Unit {0}
Apart (f ∷ l) = (key_in l f ≡ false) × Apart l

apart_without : (g : Form) (l : List Form) → Apart l → Apart (without g l)
unfolding without
apart_without g [] a = a
apart_without g (h ∷ l) a = go (same_form g h) (without_less g h l a.0) (apart_without g l a.1)
  where
    go : (t : Bool) → key_in (without g l) h ≡ false → Apart (without g l) → Apart (cond t (without g l) (h ∷ without g l))
    go true e r = r
    go false e r = (e, r)

apart_firsts : (l : List Form) → Apart (firsts l)
unfolding firsts
apart_firsts [] = tt
apart_firsts (f ∷ l) = (without_gone f (firsts l), apart_without f (firsts l) (apart_firsts l))

none_at : (l : List Form) (f x : Form) (j : ℕ) → key_in l f ≡ false → j < length l → same_form (get_or l j x) f ≡ false
unfolding key_in
none_at [] f x j e h = absurd (omega arith)
none_at (g ∷ l) f x zero e h = (or_none (same_form g f) (key_in l f) e).0
none_at (g ∷ l) f x (suc j) e h = none_at l f x j (or_none (same_form g f) (key_in l f) e).1 (omega arith)

apart_at : (l : List Form) (x : Form) → Apart l → (i j : ℕ) → i < j → j < length l → same_form (get_or l i x) (get_or l j x) ≡ false
apart_at [] x a i j h k = absurd (omega arith)
apart_at (f ∷ l) x a i zero h k = absurd (omega arith)
apart_at (f ∷ l) x a zero (suc j) h k = same_turned f (get_or l j x) ∙ none_at l f x j a.0 (omega arith)
apart_at (f ∷ l) x a (suc i) (suc j) h k = apart_at l x a.1 i j (omega arith) (omega arith)

pub firsts_once : (l : List Form) (x : Form) (i j : ℕ) → i < j → j < length (firsts l) → same_form (get_or (firsts l) i x) (get_or (firsts l) j x) ≡ false
firsts_once l x = apart_at (firsts l) x (apart_firsts l)

-- ---- what stands there

without_in : (g f : Form) (l : List Form) → Memᴰ f (without g l) → Memᴰ f l
unfolding without
without_in g f [] m = m
without_in g f (h ∷ l) m = go (same_form g h) m (without_in g f l)
  where
    go : (t : Bool) → Memᴰ f (cond t (without g l) (h ∷ without g l)) → (Memᴰ f (without g l) → Memᴰ f l) → Memᴰ f (h ∷ l)
    go true m later = Memᴰ.tail (later m)
    go false (Memᴰ.head e) later = Memᴰ.head e
    go false (Memᴰ.tail m) later = Memᴰ.tail (later m)

-- the forms are some of those met
pub firsts_in : (l : List Form) (f : Form) → Memᴰ f (firsts l) → Memᴰ f l
unfolding firsts
firsts_in [] f x' = elim x' [ ]
firsts_in (g ∷ l) f (Memᴰ.head e) = Memᴰ.head e
firsts_in (g ∷ l) f (Memᴰ.tail m) = Memᴰ.tail (firsts_in l f (without_in g f (firsts l) m))

-- of each that was met, one with its key
pub in_firsts : (l : List Form) (f : Form) → Memᴰ f l → (g : Form) × Memᴰ g (firsts l) × (same_form g f ≡ true)
in_firsts l f m = keys_in (firsts l) f (key_firsts l f ∙ in_keys l f m)

-- ---- one form more is handed in

pub handed_more : (log : List Handed) (h : Handed) → handed_in (log ++ (h ∷ [])) ≡ handed_in log ++ (h.form ∷ [])
unfolding handed_in
handed_more [] h = refl
handed_more (g ∷ log) h = ap (λ (l : List Form). g.form ∷ l) (handed_more log h)

pub issued_more : (log : List Handed) (h : Handed) → issued_of (log ++ (h ∷ [])) ≡ issued_of log ++ if_issued h.outcome h.form
unfolding issued_of
issued_more [] h = append_none (if_issued h.outcome h.form)
issued_more (g ∷ log) h =
    ap (λ (l : List Form). if_issued g.outcome g.form ++ l) (issued_more log h) ∙ sym (append_assoc (if_issued g.outcome g.form) (issued_of log) (if_issued h.outcome h.form))

pub taken_more : (log : List Handed) (h : Handed) → taken_of (log ++ (h ∷ [])) ≡ taken_of log ++ if_taken h.outcome h.form
unfolding taken_of
taken_more [] h = append_none (if_taken h.outcome h.form)
taken_more (g ∷ log) h =
    ap (λ (l : List Form). if_taken g.outcome g.form ++ l) (taken_more log h) ∙ sym (append_assoc (if_taken g.outcome g.form) (taken_of log) (if_taken h.outcome h.form))

-- what was taken was handed in
pub taken_handed : (log : List Handed) (f : Form) → Memᴰ f (taken_of log) → Memᴰ f (handed_in log)
unfolding taken_of handed_in if_taken
taken_handed [] f m = elim m [ ]
taken_handed (h ∷ log) f m =
    ⊎_elim
    (λ (x : Memᴰ f (if_taken h.outcome h.form)). Memᴰ.head (its h.outcome x))
    (λ (x : Memᴰ f (taken_of log)). Memᴰ.tail (taken_handed log f x))
    (Memᴰ.append_cases (if_taken h.outcome h.form) m)
  where
    its : (o : Result Receipt ℕ) → Memᴰ f (if_taken o h.form) → f ≡ h.form
    its (Ok Issued) x = Memᴰ.eq_of_singleton x
    its (Ok Known) x = Memᴰ.eq_of_singleton x
    its (Err n) x = absurd (Memᴰ.not-nil x)
