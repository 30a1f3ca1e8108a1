-- Orders made of two: by a number first, and by another order where that is the same.
-- Assumes nothing.
use mathlib.Core.Path.{◌≡◌, refl, sym, subst, ◌∙◌}
use mathlib.Core.Bool.{Bool, true, false, ◌&&◌, ◌||◌, true≢false}
use mathlib.Core.Logic.{◌⊎◌, inl, inr, ⊎_elim}
use Prim.Native.Nat.{ℕ}
use native.Mathlib.Omega.{arith}
use native.Mathlib.Nat.{le_antisymm}
use lib.Dec.{eqb, ltb}
use borrow.Author.Tests.{ltb-true, ltb-false, lt-ltb, le-ltb, eqb-true, eq-eqb}
use Rattle.integers.proofs.Bools.{decide, and_both, or_both_false}
use Rattle.sorting.specs.Ranking.{Order}

pub or_first : (a b : Bool) → a ≡ true → (a || b) ≡ true
or_first a b e = rw e

pub or_second : (a b : Bool) → b ≡ true → (a || b) ≡ true
or_second true b e = refl
or_second false b e = e

pub and_none : (a b : Bool) → b ≡ false → (a && b) ≡ false
and_none true b e = e
and_none false b e = refl

pub or_and : (a b c : Bool) → (a || (b && c)) ≡ true → (a ≡ true) ⊎ ((b ≡ true) × (c ≡ true))
or_and true b c e = inl refl
or_and false true c e = inr (refl, e)
or_and false false c e = absurd (true≢false (sym e))

-- ---- numbers, the lower or the higher first

pub less_order : Order ltb
less_order =
    record {
      never = λ a. le-ltb a a (omega arith);
      joins = λ a b c e f. lt-ltb a c (omega (arith, ltb-true a b e, ltb-true b c f));
      parts = λ a b c e. ⊎_elim (λ (x : ltb a b ≡ true). inl x) (λ (x : ltb a b ≡ false). inr (lt-ltb b c (omega (arith, ltb-true a c e, ltb-false a b x)))) (decide (ltb a b));
    }

abbrev pub above : ℕ → ℕ → Bool
above a b = ltb b a

pub more_order : Order above
more_order =
    record {
      never = λ a. le-ltb a a (omega arith);
      joins = λ a b c e f. lt-ltb c a (omega (arith, ltb-true b a e, ltb-true c b f));
      parts = λ a b c e. ⊎_elim (λ (x : ltb b a ≡ true). inl x) (λ (x : ltb b a ≡ false). inr (lt-ltb c b (omega (arith, ltb-true c a e, ltb-false b a x)))) (decide (ltb b a));
    }

pub less_total : (a b : ℕ) → ltb a b ≡ false → ltb b a ≡ false → a ≡ b
less_total a b e f = le_antisymm (ltb-false b a f) (ltb-false a b e)

pub more_total : (a b : ℕ) → above a b ≡ false → above b a ≡ false → a ≡ b
more_total a b e f = less_total a b f e

-- an order of numbers is one of what has a number
pub number_order : {A : Type 0} (f : A → ℕ) (lt : ℕ → ℕ → Bool) → Order lt → Order (λ (v w : A). lt (f v) (f w))
number_order f lt o =
    record {
      never = λ v. o.never (f v);
      joins = λ v w x. o.joins (f v) (f w) (f x);
      parts = λ v w x. o.parts (f v) (f w) (f x);
    }

-- ---- by a number first

module _ {A : Type 0} (f : A → ℕ) (lt : ℕ → ℕ → Bool) (first : Order lt) (total : (a b : ℕ) → lt a b ≡ false → lt b a ≡ false → a ≡ b) (then : A → A → Bool) (second : Order then) where
  abbrev pub lex_by : A → A → Bool
  lex_by v w = lt (f v) (f w) || (eqb (f v) (f w) && then v w)

  cases : (v w : A) → lex_by v w ≡ true → (lt (f v) (f w) ≡ true) ⊎ ((f v ≡ f w) × (then v w ≡ true))
  cases v w e =
      ⊎_elim
      (λ (x : lt (f v) (f w) ≡ true). inl x)
      (λ (x : (eqb (f v) (f w) ≡ true) × (then v w ≡ true)). inr (eqb-true (f v) (f w) x.0, x.1))
      (or_and (lt (f v) (f w)) (eqb (f v) (f w)) (then v w) e)

  by_one : (v w : A) → lt (f v) (f w) ≡ true → lex_by v w ≡ true
  by_one v w e = or_first (lt (f v) (f w)) (eqb (f v) (f w) && then v w) e

  by_two : (v w : A) → f v ≡ f w → then v w ≡ true → lex_by v w ≡ true
  by_two v w e h = or_second (lt (f v) (f w)) (eqb (f v) (f w) && then v w) (and_both (eqb (f v) (f w)) (then v w) (eq-eqb (f v) (f w) e) h)

  pub lex_order : Order lex_by
  lex_order =
      record {
        never = λ v. or_both_false (lt (f v) (f v)) (eqb (f v) (f v) && then v v) (first.never (f v)) (and_none (eqb (f v) (f v)) (then v v) (second.never v));
        joins = λ v w x e h.
            ⊎_elim
            (λ (a : lt (f v) (f w) ≡ true).
            ⊎_elim
            (λ (b : lt (f w) (f x) ≡ true). by_one v x (first.joins (f v) (f w) (f x) a b))
            (λ (b : (f w ≡ f x) × (then w x ≡ true)). by_one v x (subst (λ (n : ℕ). lt (f v) n ≡ true) b.0 a))
            (cases w x h))
            (λ (a : (f v ≡ f w) × (then v w ≡ true)).
            ⊎_elim
            (λ (b : lt (f w) (f x) ≡ true). by_one v x (subst (λ (n : ℕ). lt n (f x) ≡ true) (sym a.0) b))
            (λ (b : (f w ≡ f x) × (then w x ≡ true)). by_two v x (a.0 ∙ b.0) (second.joins v w x a.1 b.1))
            (cases w x h))
            (cases v w e);
        parts = λ v w x e.
            ⊎_elim
            (λ (a : lt (f v) (f x) ≡ true).
            ⊎_elim (λ (b : lt (f v) (f w) ≡ true). inl (by_one v w b)) (λ (b : lt (f w) (f x) ≡ true). inr (by_one w x b)) (first.parts (f v) (f w) (f x) a))
            (λ (a : (f v ≡ f x) × (then v x ≡ true)).
            ⊎_elim
            (λ (b : lt (f v) (f w) ≡ true). inl (by_one v w b))
            (λ (b : lt (f v) (f w) ≡ false).
            ⊎_elim
            (λ (d : lt (f w) (f v) ≡ true). inr (by_one w x (subst (λ (n : ℕ). lt (f w) n ≡ true) a.0 d)))
            (λ (d : lt (f w) (f v) ≡ false).
            let same : f v ≡ f w = total (f v) (f w) b d in
            ⊎_elim (λ (y : then v w ≡ true). inl (by_two v w same y)) (λ (y : then w x ≡ true). inr (by_two w x (sym same ∙ a.0) y)) (second.parts v w x a.1))
            (decide (lt (f w) (f v))))
            (decide (lt (f v) (f w))))
            (cases v x e);
      }
