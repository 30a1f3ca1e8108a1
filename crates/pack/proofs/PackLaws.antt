-- Laws of what `pack` answers.
-- Assumes nothing.
use mathlib.Core.Path.{◌≡◌, refl, sym, ap, subst, ◌∙◌}
use mathlib.Core.Bool.{Bool, true, false, ◌&&◌, ◌||◌}
use mathlib.Core.Logic.{◌⊎◌, inl, inr, ⊎_elim}
use mathlib.Core.List.{List}
use Prim.Native.Nat.{ℕ, ◌*◌, ◌/◌, ◌%◌, ◌≤◌, ◌<◌}
use native.Mathlib.Omega.{arith}
use lib.Dec.{eqb, leb}
use lib.IntN.{ℤ, pos}
use lib.ListN.{length}
use borrow.Author.Tests.{eqb-true, eq-eqb, ne_eqb, leb-true, le-leb, lt-leb}
use Rattle.integers.proofs.Bools.{and_left, and_right, and_both, test_iff}
use Rattle.words.specs.Word.{eq_z}
use Rattle.words.specs.Range.{edition_ok}
use Rattle.words.specs.First.{given, first, answer}
use Rattle.words.proofs.FirstLaws.{first_last, none_applies, given_held, answer_given, answer_refused}
use Rattle.sheet.specs.declared.Limits.{Limits}
use Rattle.sheet.specs.Limits.{form1, form2, limits_of}
use Rattle.sheet.specs.Points.{points_ok}
use Rattle.pack.specs.Order.{order_list_ok}
use Rattle.pack.specs.Packed.{sheet_size, packed}
use Rattle.pack.specs.Pack.{shape_ok, form_ok, range_ok, within_no, pack_no, pack_out, length_for}

-- a length is three times n where it is divided by three without rest, n times
pub thirds : (k n : ℕ) → (eqb (k % 3) 0 && eqb (k / 3) n) ≡ eqb k (3 * n)
thirds k n =
    test_iff _ _
    (λ e. eq-eqb k (3 * n) (whole (eqb-true (k % 3) 0 (and_left (eqb (k % 3) 0) (eqb (k / 3) n) e)) (eqb-true (k / 3) n (and_right (eqb (k % 3) 0) (eqb (k / 3) n) e))))
    (λ e. let q = eqb-true k (3 * n) e in and_both (eqb (k % 3) 0) (eqb (k / 3) n) (eq-eqb (k % 3) 0 (omega arith)) (eq-eqb (k / 3) n (omega arith)))
  where
    whole : k % 3 ≡ 0 → k / 3 ≡ n → k ≡ 3 * n
    whole a b = omega arith

-- what the shape says of the point words and of the order list
pub shape_points : (n : ℕ) (p o : List ℤ) → shape_ok n p o ≡ true → length p ≡ 3 * n
unfolding shape_ok
shape_points n p o e = eqb-true (length p) (3 * n) (and_left (eqb (length p) (3 * n)) (eqb (length o) n) e)

pub shape_order : (n : ℕ) (p o : List ℤ) → shape_ok n p o ≡ true → length o ≡ n
unfolding shape_ok
shape_order n p o e = eqb-true (length o) n (and_right (eqb (length p) (3 * n)) (eqb (length o) n) e)

-- what a range says of n
pub range_few : (lim : Limits) (n ed : ℕ) → range_ok lim n ed ≡ true → n ≤ lim.points
unfolding range_ok
range_few lim n ed e = leb-true n lim.points (and_left (leb n lim.points) (edition_ok ed) e)

pub range_edition : (lim : Limits) (n ed : ℕ) → range_ok lim n ed ≡ true → edition_ok ed ≡ true
unfolding range_ok
range_edition lim n ed e = and_right (leb n lim.points) (edition_ok ed) e

-- the length against the sheet's
pub pack_size_fits : (n size words : ℕ) → words ≡ sheet_size n → size ≡ words → eqb size (sheet_size n) ≡ true
pack_size_fits n size words e h = eq-eqb size (sheet_size n) (omega arith)

pub size_differs : (n size words : ℕ) → words ≡ sheet_size n → (size ≡ words → ⊥) → eqb size (sheet_size n) ≡ false
size_differs n size words e h = ne_eqb size (sheet_size n) (λ (x : size ≡ sheet_size n). h (omega arith))

-- the length that a caller is told: none past form 2's points
pub length_past : (n : ℕ) → 60000 < n → 0 ≡ length_for n
unfolding length_for
length_past n h = rw (lt-leb n 60000 h)

pub length_within : (n words : ℕ) → n ≤ 60000 → words ≡ sheet_size n → words ≡ length_for n
unfolding length_for
length_within n words h e = e ∙ rw (le-leb n 60000 h)

-- ---- what the answer says

-- no refusal under limits means that every test under them holds
pub record Packs (lim : Limits) (n : ℕ) (p o : List ℤ) (ed size : ℕ) : Type 0 where
  pub ranged : range_ok lim n ed ≡ true
  pub pointed : points_ok lim p n ≡ true
  pub ordered : order_list_ok o n ≡ true
  pub sized : size ≡ sheet_size n

pub within_facts : (lim : Limits) (n : ℕ) (p o : List ℤ) (ed size : ℕ) → within_no lim n p o ed size ≡ 0 → Packs lim n p o ed size
unfolding within_no
within_facts lim n p o ed size e =
    let z = (none_applies _).0 e in
    record {
      ranged = given_held _ (z 0);
      pointed = given_held _ (z 1);
      ordered = given_held _ (z 2);
      sized = eqb-true size (sheet_size n) (given_held _ (z 3));
    }

-- what is answered and left under limits, where these are a form's
pub pack_under : (lim form : Limits) (n : ℕ) (p o : List ℤ) (ed : ℕ) (out : List ℤ) (r : ℕ) (w : List ℤ) → lim ≡ form → r ≡ within_no lim n p o ed (length out) → w ≡ answer (within_no lim n p o ed (length out)) (packed lim.form p o n ed) (λ k. out) → (r ≡ within_no form n p o ed (length out)) × (w ≡ answer (within_no form n p o ed (length out)) (packed form.form p o n ed) (λ k. out))
pack_under lim form n p o ed out r w e =
    subst (λ (l : Limits). r ≡ within_no l n p o ed (length out) → w ≡ answer (within_no l n p o ed (length out)) (packed l.form p o n ed) (λ k. out) → (r ≡ within_no form n p o ed (length out)) × (w ≡ answer (within_no form n p o ed (length out)) (packed form.form p o n ed) (λ k. out)))
    (sym e) (λ a b. (a, b))

-- a form that the packer takes is 1 or 2
or_cases : (a b : Bool) → (a || b) ≡ true → (a ≡ true) ⊎ (b ≡ true)
or_cases true b e = inl refl
or_cases false b e = inr e

pub form_cases : (form : ℕ) → form_ok form ≡ true → (form ≡ 1) ⊎ (form ≡ 2)
unfolding form_ok
form_cases form e = ⊎_elim (λ (t : eqb form 1 ≡ true). inl (eqb-true form 1 t)) (λ (t : eqb form 2 ≡ true). inr (eqb-true form 2 t)) (or_cases (eqb form 1) (eqb form 2) e)

module _ (form n : ℕ) (p o : List ℤ) (ed size : ℕ) where
  -- no refusal: the form is one of these, and nothing is refused under its limits
  pub pack_formed : pack_no form n p o ed size ≡ 0 → form_ok form ≡ true
  unfolding pack_no
  pack_formed e = given_held _ ((none_applies _).0 e 1)

  pub pack_within : pack_no form n p o ed size ≡ 0 → within_no (limits_of (pos form)) n p o ed size ≡ 0
  unfolding pack_no
  pack_within e = (none_applies _).0 e 2

  -- 18, whatever the form; 2 for any form but these; else what is refused under the form's limits
  pub pack_shapeless : shape_ok n p o ≡ false → 18 ≡ pack_no form n p o ed size
  unfolding pack_no first given
  pack_shapeless e = rw e

  pub pack_formless : shape_ok n p o ≡ true → (form ≡ 1 → ⊥) → (form ≡ 2 → ⊥) → 2 ≡ pack_no form n p o ed size
  unfolding pack_no form_ok first given
  pack_formless e a b = rw (e, ne_eqb form 1 a, ne_eqb form 2 b)

  pub pack_by_first : shape_ok n p o ≡ true → form ≡ 1 → within_no form1 n p o ed size ≡ pack_no form n p o ed size
  unfolding pack_no form_ok limits_of eq_z first given
  pack_by_first e f = subst (λ (k : ℕ). within_no form1 n p o ed size ≡ pack_no k n p o ed size) (sym f) (rw e (sym (first_last (within_no form1 n p o ed size))))

  pub pack_by_second : shape_ok n p o ≡ true → form ≡ 2 → within_no form2 n p o ed size ≡ pack_no form n p o ed size
  unfolding pack_no form_ok limits_of eq_z first given
  pack_by_second e f = subst (λ (k : ℕ). within_no form2 n p o ed size ≡ pack_no k n p o ed size) (sym f) (rw e (sym (first_last (within_no form2 n p o ed size))))

-- both forms have at most so many points
form_most : (form : ℕ) → (form ≡ 1) ⊎ (form ≡ 2) → (limits_of (pos form)).points ≤ 60000
unfolding limits_of form1 form2 eq_z
form_most form (inl e) = subst (λ (k : ℕ). (limits_of (pos k)).points ≤ 60000) (sym e) (omega arith)
form_most form (inr e) = subst (λ (k : ℕ). (limits_of (pos k)).points ≤ 60000) (sym e) (omega arith)

-- no refusal: as many words are lent as a caller is told
pub pack_lent : (form n : ℕ) (p o : List ℤ) (ed size : ℕ) → pack_no form n p o ed size ≡ 0 → size ≡ length_for n
pack_lent form n p o ed size e =
    let lim = limits_of (pos form) in
    let z = within_facts lim n p o ed size (pack_within form n p o ed size e) in
    let few : n ≤ 60000 = omega (arith, range_few lim n ed z.ranged, form_most form (form_cases form (pack_formed form n p o ed size e))) in
    length_within n size few z.sized

module _ (form n : ℕ) (p o : List ℤ) (ed : ℕ) (out : List ℤ) where
  pub out_refused : (pack_no form n p o ed (length out) ≡ 0 → ⊥) → out ≡ pack_out form n p o ed out
  unfolding pack_out
  out_refused ne = sym (answer_refused _ (λ k. out) _ _ refl ne)

  pub out_packed : pack_no form n p o ed (length out) ≡ 0 → packed form p o n ed ≡ pack_out form n p o ed out
  unfolding pack_out
  out_packed e = sym (answer_given _ (λ k. out) _ e)

  -- what is left under the limits of a form is what is left
  pub out_by : (r g : ℕ) → r ≡ pack_no form n p o ed (length out) → form ≡ g → answer r (packed g p o n ed) (λ k. out) ≡ pack_out form n p o ed out
  unfolding pack_out
  out_by r g e f =
      ap (λ (i : ℕ). answer r (packed i p o n ed) (λ k. out)) (sym f) ∙ ap (λ (i : ℕ). answer i (packed form p o n ed) (λ k. out)) e
