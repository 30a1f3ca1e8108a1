-- A map of the numbers below n to themselves that another undoes is undone on the other side too. So order and rank are each other's inverse.
-- Assumes nothing.
use mathlib.Core.Path.{◌≡◌, refl, sym, ap, subst, ◌∙◌}
use mathlib.Core.Bool.{cond}
use mathlib.Core.Logic.{◌⊎◌, inl, inr, ⊎_elim}
use Prim.Native.Nat.{ℕ, zero, suc, ◌<◌}
use native.Mathlib.Nat.{eq-or-lt_of_le}
use native.Mathlib.Omega.{arith}
use lib.Dec.{eqb}
use borrow.Author.Tests.{eqb-true, eqb-false, eq-eqb, ne_eqb}
use Rattle.integers.proofs.Bools.{decide}

pub same? : (a b : ℕ) → (a ≡ b) ⊎ (a ≡ b → ⊥)
same? a b = ⊎_elim (λ e. inl (eqb-true a b e)) (λ e. inr (eqb-false a b e)) (decide (eqb a b))

-- what stays where `n` is left out: the place of `n` is given to whatever stood at `n`
swap_r : ℕ → (ℕ → ℕ) → ℕ → ℕ
swap_r n r i = cond (eqb (r i) n) (r n) (r i)

swap_o : ℕ → (ℕ → ℕ) → (ℕ → ℕ) → ℕ → ℕ
swap_o n r o k = cond (eqb k (r n)) (o n) (o k)

module _ (n : ℕ) (r o : ℕ → ℕ) where
  r_yes : (i : ℕ) → r i ≡ n → swap_r n r i ≡ r n
  unfolding swap_r
  r_yes i e = rw (eq-eqb (r i) n e)

  r_no : (i : ℕ) → (r i ≡ n → ⊥) → swap_r n r i ≡ r i
  unfolding swap_r
  r_no i e = rw (ne_eqb (r i) n e)

  o_yes : (k : ℕ) → k ≡ r n → swap_o n r o k ≡ o n
  unfolding swap_o
  o_yes k e = rw (eq-eqb k (r n) e)

  o_no : (k : ℕ) → (k ≡ r n → ⊥) → swap_o n r o k ≡ o k
  unfolding swap_o
  o_no k e = rw (ne_eqb k (r n) e)

module _ (n : ℕ) (r o : ℕ → ℕ) (hr : (i : ℕ) → i < suc n → r i < suc n) (ho : (i : ℕ) → i < suc n → o (r i) ≡ i) where
  inj : (i j : ℕ) → i < suc n → j < suc n → r i ≡ r j → i ≡ j
  inj i j a b e = sym (ho i a) ∙ ap o e ∙ ho j b

  swap_lt : (i : ℕ) → i < n → swap_r n r i < n
  swap_lt i h =
      ⊎_elim
      (λ (e : r i ≡ n).
      let q = r_yes n r o i e in
      let u = hr n (omega arith) in
      ⊎_elim
      (λ (d : r n ≡ n). let z = inj i n (omega arith) (omega arith) (e ∙ sym d) in absurd (omega arith))
      (λ (d : r n ≡ n → ⊥). ⊎_elim (λ (x : r n ≡ n). absurd (d x)) (λ (x : r n < n). rw q x) (eq-or-lt_of_le {n = r n} {m = n} (omega arith)))
      (same? (r n) n))
      (λ (e : r i ≡ n → ⊥).
      let u = hr i (omega arith) in
      rw (r_no n r o i e) (⊎_elim (λ (x : r i ≡ n). absurd (e x)) (λ (x : r i < n). x) (eq-or-lt_of_le {n = r i} {m = n} (omega arith))))
      (same? (r i) n)

  swap_back : (i : ℕ) → i < n → swap_o n r o (swap_r n r i) ≡ i
  swap_back i h =
      ⊎_elim
      (λ (e : r i ≡ n). ap (swap_o n r o) (r_yes n r o i e) ∙ o_yes n r o (r n) refl ∙ ap o (sym e) ∙ ho i (omega arith))
      (λ (e : r i ≡ n → ⊥).
      ap (swap_o n r o) (r_no n r o i e)
      ∙ o_no n r o (r i) (λ x. let z = inj i n (omega arith) (omega arith) x in omega arith)
      ∙ ho i (omega arith))
      (same? (r i) n)

  -- what holds below n of the maps that leave n out holds of these
  back_step : ((k : ℕ) → k < n → (swap_o n r o k < n) × (swap_r n r (swap_o n r o k) ≡ k)) → (k : ℕ) → k < suc n → (o k < suc n) × (r (o k) ≡ k)
  back_step ih k h =
      ⊎_elim
      (λ (e : k ≡ r n).
      let z : o k ≡ n = ap o e ∙ ho n (omega arith) in
      (omega arith, ap r z ∙ sym e))
      (λ (e : k ≡ r n → ⊥).
      ⊎_elim
      (λ (d : k ≡ n).
      let u = hr n (omega arith) in
      let v : r n < n = ⊎_elim (λ (x : r n ≡ n). absurd (e (d ∙ sym x))) (λ (x : r n < n). x) (eq-or-lt_of_le {n = r n} {m = n} (omega arith)) in
      let q : swap_o n r o (r n) ≡ o k = o_yes n r o (r n) refl ∙ ap o (sym d) in
      let a : o k < n = subst (λ (j : ℕ). j < n) q (ih (r n) v).0 in
      let b : swap_r n r (o k) ≡ r n = subst (λ (j : ℕ). swap_r n r j ≡ r n) q (ih (r n) v).1 in (
        omega arith,
        ⊎_elim
            (λ (x : r (o k) ≡ n). x ∙ sym d)
            (λ (x : r (o k) ≡ n → ⊥).
            let y = inj (o k) n (omega arith) (omega arith) (sym (r_no n r o (o k) x) ∙ b) in
            absurd (omega arith))
            (same? (r (o k)) n),
      ))
      (λ (d : k < n).
      let q : swap_o n r o k ≡ o k = o_no n r o k e in
      let a : o k < n = subst (λ (j : ℕ). j < n) q (ih k d).0 in
      let b : swap_r n r (o k) ≡ k = subst (λ (j : ℕ). swap_r n r j ≡ k) q (ih k d).1 in (
        omega arith,
        ⊎_elim
            (λ (x : r (o k) ≡ n). absurd (e (sym b ∙ r_yes n r o (o k) x)))
            (λ (x : r (o k) ≡ n → ⊥). sym (r_no n r o (o k) x) ∙ b)
            (same? (r (o k)) n),
      ))
      (eq-or-lt_of_le {n = k} {m = n} (omega arith)))
      (same? k (r n))

pub inverse : (n : ℕ) (r o : ℕ → ℕ) → ((i : ℕ) → i < n → r i < n) → ((i : ℕ) → i < n → o (r i) ≡ i) → (k : ℕ) → k < n → (o k < n) × (r (o k) ≡ k)
inverse zero r o hr ho k h = absurd (omega arith)
inverse (suc n) r o hr ho k h =
    back_step n r o hr ho (inverse n (swap_r n r) (swap_o n r o) (swap_lt n r o hr ho) (swap_back n r o hr ho)) k h
