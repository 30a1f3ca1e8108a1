-- Whose a chamber is, and a contractor's list beside the undivided one: of any terms, with any t, of either profile.
--
--     contractor_iff            a pair stands in a contractor's list exactly if it stands in the undivided list of the same other terms, and its chamber is the contractor's;
--                               contractor_within: nothing else stands there
--     divided                   with one 0 or 1 a chamber, each pair of the undivided list stands in exactly one of the two contractors' lists
--     undivided                 the list of contractor 2 is that of all chambers; undivided_any: whatever the bytes are
--     read_any, mine_read, owners_none, ..      what the code finds in the bytes; contractor_most, contractor_two, owners_each: what the numbers 27 and 26 being 0 says
-- Assumes nothing.
use Rattle.std.proofs.Common.{IsTrue, EachIndex}
use mathlib.Core.Path.{◌≡◌, refl, sym, ap, subst, ◌∙◌}
use mathlib.Core.Bool.{Bool, true, false, cond, not, ◌&&◌, ◌||◌}
use mathlib.Core.Logic.{◌↔◌, ◌⊎◌, inl, inr, ⊎_elim}
use mathlib.Core.List.{List, [], ◌∷◌, Memᴰ}
use Prim.Native.Nat.{ℕ, zero, suc, ◌≤◌, ◌<◌}
use native.Mathlib.Omega.{arith}
use lib.Dec.{eqb, leb}
use lib.ListN.{length, get_or}
use borrow.Author.Tests.{eqb-true, eq-eqb, ne_eqb, leb-true, le-leb}
use Rattle.integers.proofs.Bools.{test_iff, decide, and_left, and_right, and_both, clash}
use Rattle.words.specs.First.{given}
use Rattle.words.specs.All.{all_b}
use Rattle.words.proofs.AllLaws.{all_at, all_make}
use Rattle.words.proofs.FirstLaws.{given_held}
use Rattle.plane.specs.Point.{Point, id_at}
use Rattle.list.specs.declared.Pair.{Pair}
use Rattle.list.specs.declared.Terms.{Terms}
use Rattle.list.specs.Pages.{contractor_no, owners_no}
use Rattle.list.specs.Rows.{at_least, list_by, Rising}
use Rattle.list.specs.RingList.{pair_by}
use Rattle.list.specs.Contractor.{mine, one_each}
use Rattle.list.specs.Terms.{of_contractor, profile_for, pair_for, listed_for, list_for}
use Rattle.list.proofs.TermsLaws.{for_iff, for_only}

-- ---- the bytes

-- what is read past the end is asked of no byte
pub read_any : (o : List ℕ) (j a b : ℕ) → j < length o → get_or o j a ≡ get_or o j b
read_any [] j a b h = absurd (omega arith)
read_any (x ∷ o) zero a b h = refl
read_any (x ∷ o) (suc j) a b h = read_any o j a b (omega arith)

pub mine_read : (c : ℕ) (o : List ℕ) (j b : ℕ) → b ≡ get_or o j 2 → (eqb c 2 || eqb b c) ≡ mine c o j
mine_read c o j b e = ap (λ (x : ℕ). eqb c 2 || eqb x c) e

-- contractor 2 has every chamber
pub mine_all : (c : ℕ) → c ≡ 2 → (o : List ℕ) (j : ℕ) → mine c o j ≡ true
mine_all c e o j = ap (λ (b : Bool). b || eqb (get_or o j 2) c) (eq-eqb c 2 e)

module _ (c : ℕ) (one : c < 2) (o : List ℕ) (j : ℕ) where
  byte : mine c o j ≡ eqb (get_or o j 2) c
  byte = ap (λ (b : Bool). b || eqb (get_or o j 2) c) (ne_eqb c 2 (λ e. omega arith))

  -- either of the other two has those whose byte says so
  pub mine_is : mine c o j ≡ true → get_or o j 2 ≡ c
  mine_is e = eqb-true (get_or o j 2) c (sym byte ∙ e)

  pub is_mine : get_or o j 2 ≡ c → mine c o j ≡ true
  is_mine e = byte ∙ eq-eqb (get_or o j 2) c e

  pub not_mine : (get_or o j 2 ≡ c → ⊥) → mine c o j ≡ false
  not_mine ne = byte ∙ ne_eqb (get_or o j 2) c ne

-- the test of one byte
abbrev pub owned : List ℕ → ℕ → Bool
owned o j = leb (get_or o j 2) 1

-- that of them all, of as many bytes
pub bits_all : (o : List ℕ) (n : ℕ) (r : Bool) → length o ≡ n → IsTrue r ↔ EachIndex o (λ j. get_or o j 0 ≤ 1) → r ≡ all_b n (owned o)
bits_all o n r e f = test_iff _ _ forth back
  where
    forth : r ≡ true → all_b n (owned o) ≡ true
    forth t = all_make (owned o) n (λ j h. le-leb (get_or o j 2) 1 (rw (read_any o j 2 0 (omega arith)) (f.0 t j (omega arith))))

    back : all_b n (owned o) ≡ true → r ≡ true
    back t = f.1 (λ j h. rw (read_any o j 0 2 h) (leb-true (get_or o j 2) 1 (all_at (owned o) n t j (omega arith))))

pub each_other : (o : List ℕ) (n : ℕ) → (length o ≡ n → ⊥) → false ≡ one_each o n
unfolding one_each
each_other o n ne = rw (ne_eqb (length o) n ne)

pub each_by : (o : List ℕ) (n : ℕ) (b : Bool) → length o ≡ n → b ≡ all_b n (owned o) → b ≡ one_each o n
unfolding one_each
each_by o n b e f = rw (eq-eqb (length o) n e) f

pub each_at : (o : List ℕ) (n : ℕ) → one_each o n ≡ true → (j : ℕ) → j < n → get_or o j 2 ≤ 1
unfolding one_each
each_at o n e j h = leb-true (get_or o j 2) 1 (all_at (owned o) n (and_right (eqb (length o) n) (all_b n (owned o)) e) j h)

-- ---- the numbers 27 and 26

pub contractor_most : (own : Bool) (c : ℕ) → contractor_no own c ≡ 0 → c ≤ 2
unfolding contractor_no
contractor_most own c e = leb-true c 2 (and_left (leb c 2) (not own || eqb c 2) (given_held _ e))

pub contractor_two : (c : ℕ) → contractor_no true c ≡ 0 → c ≡ 2
unfolding contractor_no
contractor_two c e = eqb-true c 2 (and_right (leb c 2) (eqb c 2) (given_held _ e))

pub contractor_fits : (c : ℕ) → c ≤ 2 → contractor_no false c ≡ 0
unfolding contractor_no given
contractor_fits c h = rw (le-leb c 2 h)

pub owners_each : (c : ℕ) (o : List ℕ) (n : ℕ) → c < 2 → owners_no c o n ≡ 0 → one_each o n ≡ true
unfolding owners_no
owners_each c o n h e = sym (ap (λ (b : Bool). cond b (eqb (length o) 0) (one_each o n)) (ne_eqb c 2 (λ x. omega arith))) ∙ given_held _ e

module _ (c : ℕ) (o : List ℕ) (n : ℕ) where
  -- of an undivided list: no byte, or some
  pub owners_none : c ≡ 2 → length o ≡ 0 → 0 ≡ owners_no c o n
  unfolding owners_no given
  owners_none e z = rw (eq-eqb c 2 e, eq-eqb (length o) 0 z)

  pub owners_some : c ≡ 2 → (length o ≡ 0 → ⊥) → 26 ≡ owners_no c o n
  unfolding owners_no given
  owners_some e ne = rw (eq-eqb c 2 e, ne_eqb (length o) 0 ne)

  -- of a contractor's: as they are told
  pub owners_bad : (c ≡ 2 → ⊥) → (b : Bool) → b ≡ one_each o n → not b ≡ true → 26 ≡ owners_no c o n
  unfolding owners_no given
  owners_bad ne b e f = rw (ne_eqb c 2 ne, ← e, f)

  pub owners_good : (c ≡ 2 → ⊥) → (b : Bool) → b ≡ one_each o n → not b ≡ false → 0 ≡ owners_no c o n
  unfolding owners_no given
  owners_good ne b e f = rw (ne_eqb c 2 ne, ← e, f)

-- ---- a contractor's list

module _ (a : Terms) (o : List ℕ) (P Q : List Point) where
  -- the rule, the contractor apart
  abbrev free : ℕ → ℕ → Bool
  free = at_least (pair_for a P Q) (pair_by (profile_for a) P Q) a.threshold (length P)

  -- "Pages and books carry the contractor, or 2 for an undivided list": the list of all chambers
  pub undivided : a.contractor ≡ 2 → list_for a o P Q ≡ list_by (at_least (pair_for a P Q) (pair_by (profile_for a) P Q) a.threshold (length P)) (pair_by (profile_for a) P Q) (length P) (length Q)
  unfolding list_for listed_for
  undivided e = ap (λ (m : ℕ → Bool). list_by (λ j i. m j && free j i) (pair_by (profile_for a) P Q) (length P) (length Q)) (λ s j. mine_all a.contractor e o j s)

pub undivided_any : (a : Terms) → a.contractor ≡ 2 → (o o' : List ℕ) (P Q : List Point) → list_for a o P Q ≡ list_for a o' P Q
undivided_any a e o o' P Q = undivided a o P Q e ∙ sym (undivided a o' P Q e)

module _ (a : Terms) (o : List ℕ) (P Q : List Point) (rp : Rising (id_at P) (length P)) (rq : Rising (id_at Q) (length Q)) where
  -- the undivided list of the same other terms, which takes no bytes
  abbrev Whole : List Pair
  Whole = list_for (of_contractor 2 a) [] P Q

  abbrev at : ℕ → ℕ → Pair
  at = pair_by (profile_for a) P Q

  whole_rule : (j i : ℕ) → listed_for (of_contractor 2 a) [] P Q j i ≡ free a o P Q j i
  unfolding listed_for pair_for
  whole_rule j i = refl

  pub contractor_iff : (j i : ℕ) → j < length Q → i < length P → Memᴰ (at j i) (list_for a o P Q) ↔ (Memᴰ (at j i) Whole × (mine a.contractor o j ≡ true))
  unfolding listed_for
  contractor_iff j i hj hi =
      let m = mine a.contractor o j in
      let f = free a o P Q j i in (
        λ x.
            let e = (for_iff a o P Q rp rq j i hj hi).0 x in
            ((for_iff (of_contractor 2 a) [] P Q rp rq j i hj hi).1 (whole_rule j i ∙ and_right m f e), and_left m f e),
        λ x. (for_iff a o P Q rp rq j i hj hi).1 (and_both m f x.1 (sym (whole_rule j i) ∙ (for_iff (of_contractor 2 a) [] P Q rp rq j i hj hi).0 x.0)),
      )

  pub contractor_within : (v : Pair) → Memᴰ v (list_for a o P Q) → Memᴰ v Whole
  contractor_within v m =
      let z = for_only a o P Q rp rq v m in
      subst (λ (u : Pair). Memᴰ u Whole) (sym z.is) ((contractor_iff z.at_q z.at_p z.q_in z.p_in).0 (subst (λ (u : Pair). Memᴰ u (list_for a o P Q)) z.is m)).0

-- exactly one of two
abbrev pub OneOf : Type 0 → Type 0 → Type 0
OneOf A B = (A × (B → ⊥)) ⊎ ((A → ⊥) × B)

module _ (a : Terms) (o : List ℕ) (P Q : List Point) (rp : Rising (id_at P) (length P)) (rq : Rising (id_at Q) (length Q)) where
  -- a contractor's list
  abbrev Part : ℕ → List Pair
  Part c = list_for (of_contractor c a) o P Q

  pub divided : one_each o (length Q) ≡ true → (v : Pair) → Memᴰ v (list_for (of_contractor 2 a) [] P Q) → OneOf (Memᴰ v (Part 0)) (Memᴰ v (Part 1))
  divided each v m =
      let z = for_only (of_contractor 2 a) [] P Q rp rq v m in
      let j = z.at_q in
      let i = z.at_p in
      let here : Memᴰ (pair_by (profile_for a) P Q j i) (list_for (of_contractor 2 a) [] P Q) = subst (λ (u : Pair). Memᴰ u (list_for (of_contractor 2 a) [] P Q)) z.is m in
      subst (λ (u : Pair). OneOf (Memᴰ u (Part 0)) (Memᴰ u (Part 1))) (sym z.is)
      (⊎_elim
      (λ (e : eqb (get_or o j 2) 0 ≡ true).
      let b = eqb-true (get_or o j 2) 0 e in
      inl (has 0 (omega arith) j i z.q_in z.p_in here b, hasn't 1 (omega arith) j i z.q_in z.p_in (λ x. omega arith)))
      (λ (e : eqb (get_or o j 2) 0 ≡ false).
      let ne : get_or o j 2 ≡ 0 → ⊥ = λ x. clash (eq-eqb (get_or o j 2) 0 x) e in
      let b : get_or o j 2 ≡ 1 = omega (arith, each_at o (length Q) each j z.q_in, ne) in
      inr (hasn't 0 (omega arith) j i z.q_in z.p_in ne, has 1 (omega arith) j i z.q_in z.p_in here b))
      (decide (eqb (get_or o j 2) 0)))
    where
      has : (c : ℕ) → c < 2 → (j i : ℕ) → j < length Q → i < length P → Memᴰ (pair_by (profile_for a) P Q j i) (list_for (of_contractor 2 a) [] P Q) → get_or o j 2 ≡ c → Memᴰ (pair_by (profile_for a) P Q j i) (Part c)
      has c one j i hj hi x e = (contractor_iff (of_contractor c a) o P Q rp rq j i hj hi).1 (x, is_mine c one o j e)

      hasn't : (c : ℕ) → c < 2 → (j i : ℕ) → j < length Q → i < length P → (get_or o j 2 ≡ c → ⊥) → Memᴰ (pair_by (profile_for a) P Q j i) (Part c) → ⊥
      hasn't c one j i hj hi ne x = clash ((contractor_iff (of_contractor c a) o P Q rp rq j i hj hi).0 x).1 (not_mine c one o j ne)
