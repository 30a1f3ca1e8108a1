-- What taking a form decides and leaves. Assumes nothing.
use mathlib.Core.Path.{◌≡◌, refl, sym, ap, ap₂, ◌∙◌}
use mathlib.Core.Bool.{Bool, true, false, ◌||◌}
use mathlib.Core.List.{List, [], ◌∷◌, ◌++◌}
use Prim.Native.Nat.{ℕ, ◌≤◌, ◌<◌}
use lib.ListN.{length, take, drop}
use borrow.Author.Tests.{lt-ltb, le-ltb, le-leb, lt-leb}
use Rattle.std.specs.Prelude.{Ok, Err}
use Rattle.std.specs.List.{list_any}
use Rattle.words.specs.First.{given, first, answer}
use Rattle.list.specs.Lent.{lent_of}
use Rattle.depot.specs.declared.Form.{Form}
use Rattle.depot.specs.declared.Receipt.TheVariants.{Issued, Known}
use Rattle.depot.specs.declared.Depot.{Depot}
use Rattle.depot.specs.declared.Stored.{Stored}
use Rattle.depot.specs.declared.StoredArray.{StoredArray}
use Rattle.depot.specs.Depot.{Verdict, form_ok, same_form, key_in, store_no_at, issues, knows, refuses, judged, is_known, verdict, stored, stored_slots, with_slots, stored_array}

-- ---- what is decided, in order

module _ (d : Depot) (len : ℕ) (f : Form) (known : Bool) where
  pub judged_11 : len < d.held → refuses d 11 ≡ judged d len f known
  unfolding judged store_no_at first given answer
  judged_11 h = rw (lt-ltb len d.held h)

  module _ (h1 : d.held ≤ len) where
    pub judged_15 : form_ok f ≡ false → refuses d 15 ≡ judged d len f known
    unfolding judged store_no_at first given answer
    judged_15 h = rw (le-ltb len d.held h1, h)

    module _ (h2 : form_ok f ≡ true) where
      pub judged_known : known ≡ true → knows d ≡ judged d len f known
      unfolding judged store_no_at first given answer
      judged_known h = rw (le-ltb len d.held h1, h2, h)

      pub judged_16 : known ≡ false → len ≤ d.held → refuses d 16 ≡ judged d len f known
      unfolding judged store_no_at first given answer
      judged_16 h g = rw (le-ltb len d.held h1, h2, h, le-leb len d.held g)

      pub judged_issued : known ≡ false → d.held < len → issues d ≡ judged d len f known
      unfolding judged store_no_at first given answer
      judged_issued h g = rw (le-ltb len d.held h1, h2, h, lt-leb len d.held g)

-- ---- what is said

pub key_any : (l : List Form) (f : Form) → list_any (λ g. same_form g f) l ≡ key_in l f
unfolding key_in
key_any [] f = refl
key_any (g ∷ l) f = ap (λ (x : Bool). same_form g f || x) (key_any l f)

or_assoc : (x y z : Bool) → ((x || y) || z) ≡ (x || (y || z))
or_assoc true y z = refl
or_assoc false y z = refl

-- the key stands in one of two lists
pub key_append : (a b : List Form) (f : Form) → key_in (a ++ b) f ≡ (key_in a f || key_in b f)
unfolding key_in
key_append [] b f = refl
key_append (g ∷ a) b f = ap (λ (x : Bool). same_form g f || x) (key_append a b f) ∙ sym (or_assoc (same_form g f) (key_in a f) (key_in b f))

module _ (d : Depot) (l : List Form) (f : Form) where
  pub said_11 : length l < d.held → Err 11 ≡ (stored d l f).outcome
  unfolding stored verdict
  said_11 h = ap (λ (v : Verdict). v.stored.outcome) (judged_11 d (length l) f (is_known d l f) h)

  module _ (h1 : d.held ≤ length l) where
    pub said_15 : form_ok f ≡ false → Err 15 ≡ (stored d l f).outcome
    unfolding stored verdict
    said_15 h = ap (λ (v : Verdict). v.stored.outcome) (judged_15 d (length l) f (is_known d l f) h1 h)

    module _ (h2 : form_ok f ≡ true) where
      pub said_known : key_in (take d.held l) f ≡ true → Ok Known ≡ (stored d l f).outcome
      unfolding stored verdict is_known
      said_known h = ap (λ (v : Verdict). v.stored.outcome) (judged_known d (length l) f _ h1 h2 h)

      pub said_16 : key_in (take d.held l) f ≡ false → length l ≤ d.held → Err 16 ≡ (stored d l f).outcome
      unfolding stored verdict is_known
      said_16 h g = ap (λ (v : Verdict). v.stored.outcome) (judged_16 d (length l) f _ h1 h2 h g)

      pub said_issued : key_in (take d.held l) f ≡ false → d.held < length l → Ok Issued ≡ (stored d l f).outcome
      unfolding stored verdict is_known
      said_issued h g = ap (λ (v : Verdict). v.stored.outcome) (judged_issued d (length l) f _ h1 h2 h g)

-- ---- a part of an array, lent

pub stored_array_is : (l : List Form) (len : ℕ) (d : Depot) (f : Form) (m : ℕ) (r : Stored) (zs : List Form) (t : StoredArray) → m ≡ lent_of 64 len
    → r ≡ stored d (take m l) f → zs ≡ stored_slots d (take m l) f → t ≡ with_slots (zs ++ drop m l) r → t ≡ stored_array l len d f
unfolding stored_array
stored_array_is l len d f m r zs t e x y z =
    z ∙ ap₂ (λ (u : List Form) (v : Stored). with_slots (u ++ drop m l) v) y x
    ∙ ap (λ (k : ℕ). with_slots (stored_slots d (take k l) f ++ drop k l) (stored d (take k l) f)) e
