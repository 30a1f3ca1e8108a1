-- Forms with one key: all parts but the size are the same. And which keys a list has.
-- Assumes nothing.
use mathlib.Core.Path.{◌≡◌, refl, sym, ap, ◌∙◌}
use mathlib.Core.Bool.{Bool, true, false, beq, ◌&&◌, ◌||◌}
use mathlib.Core.Logic.{⊎_elim}
use mathlib.Core.List.{List, [], ◌∷◌, Memᴰ}
use lib.Dec.{eqb}
use borrow.Author.Tests.{eqb-true, eq-eqb}
use Rattle.integers.proofs.Bools.{decide, and_left, and_right, clash, test_iff}
use Rattle.list.specs.Pages.{alike}
use Rattle.list.proofs.SourceLaws.{alike_is, is_alike}
use Rattle.depot.specs.declared.Form.{Form}
use Rattle.depot.specs.Depot.{same_form, key_in}

-- both or neither, as the code tests it
pub beq_alike : (a b : Bool) → beq a b ≡ alike a b
beq_alike true true = refl
beq_alike true false = refl
beq_alike false true = refl
beq_alike false false = refl

-- ---- one key

-- the parts of the key are the same
pub record OneKey (f g : Form) : Type 0 where
  pub p_edition_is : f.p_edition ≡ g.p_edition
  pub q_edition_is : f.q_edition ≡ g.q_edition
  pub own_is : f.own ≡ g.own
  pub contractor_is : f.contractor ≡ g.contractor
  pub grid_is : f.grid ≡ g.grid
  pub q_is : f.q ≡ g.q
  pub p_is : f.p ≡ g.p

pub key_of_same : (f g : Form) → same_form f g ≡ true → OneKey f g
unfolding same_form
key_of_same f g e =
    let a1 = eqb f.p_edition g.p_edition in
    let a2 = eqb f.q_edition g.q_edition in
    let a3 = alike f.own g.own in
    let a4 = eqb f.contractor g.contractor in
    let a5 = alike f.grid g.grid in
    let a6 = eqb f.q g.q in
    let a7 = eqb f.p g.p in
    let e6 = and_left (a1 && a2 && a3 && a4 && a5 && a6) a7 e in
    let e5 = and_left (a1 && a2 && a3 && a4 && a5) a6 e6 in
    let e4 = and_left (a1 && a2 && a3 && a4) a5 e5 in
    let e3 = and_left (a1 && a2 && a3) a4 e4 in
    let e2 = and_left (a1 && a2) a3 e3 in
    record {
      p_edition_is = eqb-true _ _ (and_left a1 a2 e2);
      q_edition_is = eqb-true _ _ (and_right a1 a2 e2);
      own_is = alike_is _ _ (and_right (a1 && a2) a3 e3);
      contractor_is = eqb-true _ _ (and_right (a1 && a2 && a3) a4 e4);
      grid_is = alike_is _ _ (and_right (a1 && a2 && a3 && a4) a5 e5);
      q_is = eqb-true _ _ (and_right (a1 && a2 && a3 && a4 && a5) a6 e6);
      p_is = eqb-true _ _ (and_right (a1 && a2 && a3 && a4 && a5 && a6) a7 e);
    }

pub same_of_key : (f g : Form) → OneKey f g → same_form f g ≡ true
unfolding same_form
same_of_key f g k =
    rw (k.p_edition_is, k.q_edition_is, k.own_is, k.contractor_is, k.grid_is, k.q_is, k.p_is, eq-eqb g.p_edition _ refl, eq-eqb g.q_edition _ refl, is_alike g.own _ refl, eq-eqb g.contractor _ refl, is_alike g.grid _ refl, eq-eqb g.q _ refl, eq-eqb g.p _ refl)

-- whichever way it is asked, and through a third form
key_turned : (f g : Form) → OneKey f g → OneKey g f
key_turned f g k =
    record { p_edition_is = sym k.p_edition_is; q_edition_is = sym k.q_edition_is; own_is = sym k.own_is; contractor_is = sym k.contractor_is; grid_is = sym k.grid_is; q_is = sym k.q_is; p_is = sym k.p_is }

key_through : (f g h : Form) → OneKey f g → OneKey g h → OneKey f h
key_through f g h k l =
    record {
      p_edition_is = k.p_edition_is ∙ l.p_edition_is;
      q_edition_is = k.q_edition_is ∙ l.q_edition_is;
      own_is = k.own_is ∙ l.own_is;
      contractor_is = k.contractor_is ∙ l.contractor_is;
      grid_is = k.grid_is ∙ l.grid_is;
      q_is = k.q_is ∙ l.q_is;
      p_is = k.p_is ∙ l.p_is;
    }

pub same_turned : (f g : Form) → same_form f g ≡ same_form g f
same_turned f g =
    test_iff (same_form f g) (same_form g f) (λ e. same_of_key g f (key_turned f g (key_of_same f g e))) (λ e. same_of_key f g (key_turned g f (key_of_same g f e)))

-- forms with one key are one in all tests of keys
pub same_with : (f g h : Form) → same_form f g ≡ true → same_form f h ≡ same_form g h
same_with f g h e =
    let k = key_of_same f g e in
    test_iff (same_form f h) (same_form g h) (λ x. same_of_key g h (key_through g f h (key_turned f g k) (key_of_same f h x))) (λ x. same_of_key f h (key_through f g h k (key_of_same g h x)))

pub form_self : (f : Form) → same_form f f ≡ true
form_self f = same_of_key f f (record { p_edition_is = refl; q_edition_is = refl; own_is = refl; contractor_is = refl; grid_is = refl; q_is = refl; p_is = refl })

-- ---- the keys of a list

-- a form that stands in it has its key in it
pub in_keys : (l : List Form) (f : Form) → Memᴰ f l → key_in l f ≡ true
unfolding key_in
in_keys [] f m = elim m [ ]
in_keys (g ∷ l) f (Memᴰ.head e) = rw (e, form_self g)
in_keys (g ∷ l) f (Memᴰ.tail m) = ⊎_elim (λ (e : same_form g f ≡ true). rw e) (λ (e : same_form g f ≡ false). rw (e, in_keys l f m)) (decide (same_form g f))

-- a key that is in it is that of a form that stands there
pub keys_in : (l : List Form) (f : Form) → key_in l f ≡ true → (g : Form) × Memᴰ g l × (same_form g f ≡ true)
unfolding key_in
keys_in [] f e = clash e refl
keys_in (g ∷ l) f e = go (same_form g f) refl (keys_in l f)
  where
    go : (t : Bool) → same_form g f ≡ t → (key_in l f ≡ true → (h : Form) × Memᴰ h l × (same_form h f ≡ true)) → (h : Form) × Memᴰ h (g ∷ l) × (same_form h f ≡ true)
    go true s later = (g, Memᴰ.head refl, s)
    go false s later = let r = later (sym (ap (λ (x : Bool). x || key_in l f) s) ∙ e) in (r.0, Memᴰ.tail r.1, r.2)
