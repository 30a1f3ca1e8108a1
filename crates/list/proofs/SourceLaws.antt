-- What list a page or a book is of: two sources give the number 0 exactly if they are the same, and 22, 28, 30, 13 or 31 otherwise.
-- Assumes nothing.
use mathlib.Core.Path.{◌≡◌, refl, sym, ap, ◌∙◌}
use mathlib.Core.Bool.{Bool, true, false, ◌&&◌}
use Prim.Native.Nat.{ℕ}
use lib.Dec.{eqb}
use borrow.Author.Tests.{eqb-true, eq-eqb}
use Rattle.integers.proofs.Bools.{and_left, and_right, and_both}
use Rattle.words.specs.First.{given, first}
use Rattle.words.proofs.FirstLaws.{none_applies, first_passes, first_skips, given_held, given_other}
use Rattle.list.specs.declared.Source.{Source}
use Rattle.list.specs.Pages.{alike, same_kind, same_profile, source_no}

-- both or neither
pub alike_is : (a b : Bool) → alike a b ≡ true → a ≡ b
alike_is true true e = refl
alike_is true false e = sym e
alike_is false true e = e
alike_is false false e = refl

pub is_alike : (a b : Bool) → a ≡ b → alike a b ≡ true
is_alike true true e = refl
is_alike true false e = sym e
is_alike false true e = e
is_alike false false e = refl

-- a page that is not refused by its source is of the book's list
pub same_source : (a b : Source) → source_no a b ≡ 0 → a ≡ b
unfolding source_no
same_source a b e =
    let p = eqb a.p_edition b.p_edition in
    let q = eqb a.q_edition b.q_edition in
    let z = (none_applies _).0 e in
    let k = alike_is a.terms.own b.terms.own (given_held _ (z 0)) in
    let c = eqb-true a.terms.contractor b.terms.contractor (given_held _ (z 1)) in
    let f = alike_is a.terms.grid b.terms.grid (given_held _ (z 2)) in
    let both = given_held _ (z 3) in
    let x = eqb-true a.p_edition b.p_edition (and_left p q both) in
    let y = eqb-true a.q_edition b.q_edition (and_right p q both) in
    let t = eqb-true a.terms.threshold b.terms.threshold (given_held _ (z 4)) in
    λ i. record { p_edition = x i; q_edition = y i; terms = record { threshold = t i; contractor = c i; own = k i; grid = f i } }

pub source_same : (a b : Source) → a ≡ b → source_no a b ≡ 0
unfolding source_no first given
source_same a b e =
    let p = eqb a.p_edition b.p_edition in
    let q = eqb a.q_edition b.q_edition in
    let kind : same_kind a b ≡ true = is_alike a.terms.own b.terms.own (ap (λ (v : Source). v.terms.own) e) in
    let contractor : eqb a.terms.contractor b.terms.contractor ≡ true = eq-eqb a.terms.contractor b.terms.contractor (ap (λ (v : Source). v.terms.contractor) e) in
    let profile : same_profile a b ≡ true = is_alike a.terms.grid b.terms.grid (ap (λ (v : Source). v.terms.grid) e) in
    let both : (p && q) ≡ true = and_both p q (eq-eqb a.p_edition b.p_edition (ap (λ (v : Source). v.p_edition) e)) (eq-eqb a.q_edition b.q_edition (ap (λ (v : Source). v.q_edition) e)) in
    let same : eqb a.terms.threshold b.terms.threshold ≡ true = eq-eqb a.terms.threshold b.terms.threshold (ap (λ (v : Source). v.terms.threshold) e) in
    rw (kind, contractor, profile, both, same)

-- the only other numbers are 22, 28, 30, 13 and 31
pub source_other : (a b : Source) (x : ℕ) → (22 ≡ x → ⊥) → (28 ≡ x → ⊥) → (30 ≡ x → ⊥) → (13 ≡ x → ⊥) → (31 ≡ x → ⊥) → source_no a b ≡ x → source_no a b ≡ 0
unfolding source_no
source_other a b x i c l j k e =
    let f = first_skips _ _ x (given_other _ 22 x i) e in
    let n = first_skips _ _ x (given_other _ 28 x c) f.1 in
    let m = first_skips _ _ x (given_other _ 30 x l) n.1 in
    let g = first_skips _ _ x (given_other _ 13 x j) m.1 in
    let h = first_skips _ _ x (given_other _ 31 x k) g.1 in
    first_passes _ _ f.0 ∙ first_passes _ _ n.0 ∙ first_passes _ _ m.0 ∙ first_passes _ _ g.0 ∙ first_passes _ _ h.0 ∙ (unfold first in refl)
