-- What a tightest box says of the points below its node: none lies outside, and one lies on each side.
-- Assumes nothing.
use mathlib.Core.Path.{◌≡◌, refl, sym, subst, ◌∙◌}
use mathlib.Core.Bool.{Bool, true, false, cond}
use mathlib.Core.Logic.{◌⊎◌, inl, inr, ⊎_elim}
use mathlib.Core.List.{List}
use Prim.Native.Nat.{ℕ, zero, suc, ◌+◌, ◌-◌, ◌<◌, ◌≤◌}
use native.Mathlib.Omega.{arith}
use native.Mathlib.Nat.{eq-or-lt_of_le}
use lib.Dec.{ltb}
use lib.IntN.{ℤ}
use lib.Signed.{lt_z, le_z}
use Rattle.words.specs.Word.{min_z, max_z}
use Rattle.integers.proofs.Bools.{decide}
use Rattle.words.proofs.Signs.{le_z_refl, le_z_trans, words_lt_le, not_lt_le}
use Rattle.sheet.specs.Nodes.{level_of, first_of, count_of, table_ok}
use Rattle.sheet.specs.Boxes.{coord_of, better, best, tight_side, Below, reaches}
use Rattle.sheet.proofs.TreeLaws.{run_at, child}

reaches_refl : (q : ℕ) (a : ℤ) → reaches q a a ≡ true
unfolding reaches
reaches_refl q a = ⊎_elim (λ (e : ltb q 2 ≡ true). rw e (le_z_refl a)) (λ (e : ltb q 2 ≡ false). rw e (le_z_refl a)) (decide (ltb q 2))

reaches_trans : (q : ℕ) (a b c : ℤ) → reaches q a b ≡ true → reaches q b c ≡ true → reaches q a c ≡ true
unfolding reaches
reaches_trans q a b c = go (ltb q 2)
  where
    go : (t : Bool) → cond t (le_z a b) (le_z b a) ≡ true → cond t (le_z b c) (le_z c b) ≡ true → cond t (le_z a c) (le_z c a) ≡ true
    go true e f = le_z_trans a b c e f
    go false e f = le_z_trans c b a f e

-- the better of two is one of them, and reaches both
record Better (q : ℕ) (a b : ℤ) : Type 0 where
  left : reaches q (better q a b) a ≡ true
  right : reaches q (better q a b) b ≡ true
  one : (better q a b ≡ a) ⊎ (better q a b ≡ b)

better_laws : (q : ℕ) (a b : ℤ) → Better q a b
unfolding better reaches min_z max_z
better_laws q a b =
    ⊎_elim
    (λ (e : ltb q 2 ≡ true).
    ⊎_elim
    (λ (f : lt_z b a ≡ true). record { left = rw (e, f) (words_lt_le b a f); right = rw (e, f) (le_z_refl b); one = inr (rw (e, f)) })
    (λ (f : lt_z b a ≡ false). record { left = rw (e, f) (le_z_refl a); right = rw (e, f) (not_lt_le b a f); one = inl (rw (e, f)) })
    (decide (lt_z b a)))
    (λ (e : ltb q 2 ≡ false).
    ⊎_elim
    (λ (f : lt_z a b ≡ true). record { left = rw (e, f) (words_lt_le a b f); right = rw (e, f) (le_z_refl b); one = inr (rw (e, f)) })
    (λ (f : lt_z a b ≡ false). record { left = rw (e, f) (le_z_refl a); right = rw (e, f) (not_lt_le a b f); one = inl (rw (e, f)) })
    (decide (lt_z a b)))
    (decide (ltb q 2))

-- the best of a run reaches each of it, and is one of it
pub best_in : (q : ℕ) (v : ℕ → ℤ) (a c k : ℕ) → a ≤ k → k ≤ a + c → reaches q (best q v a c) (v k) ≡ true
unfolding best
best_in q v a zero k f g = let e : k ≡ a = omega arith in subst (λ (i : ℕ). reaches q (v a) (v i) ≡ true) (sym e) (reaches_refl q (v a))
best_in q v a (suc c) k f g =
    let b = better_laws q (best q v a c) (v (a + suc c)) in
    ⊎_elim
    (λ (e : k ≡ a + suc c). subst (λ (i : ℕ). reaches q (better q (best q v a c) (v (a + suc c))) (v i) ≡ true) (sym e) b.right)
    (λ (h : k < a + suc c). reaches_trans q _ (best q v a c) (v k) b.left (best_in q v a c k f (omega arith)))
    (eq-or-lt_of_le g)

pub best_one : (q : ℕ) (v : ℕ → ℤ) (a c : ℕ) → (k : ℕ) × (a ≤ k) × (k ≤ a + c) × (best q v a c ≡ v k)
unfolding best
best_one q v a zero = (a, omega arith, omega arith, refl)
best_one q v a (suc c) =
    let ih = best_one q v a c in
    ⊎_elim
    (λ (e : better q (best q v a c) (v (a + suc c)) ≡ best q v a c). (ih.0, ih.1, omega (arith, ih.2), e ∙ ih.3))
    (λ (e : better q (best q v a c) (v (a + suc c)) ≡ v (a + suc c)). (a + suc c, omega arith, omega arith, e))
    (better_laws q (best q v a c) (v (a + suc c))).one

module _ (w : List ℤ) (n m : ℕ) (ok : table_ok w n m ≡ true) where
  -- no point below a node lies outside its tightest box
  pub tight_in : (q l j : ℕ) → j < m → level_of w n j ≡ l → (k : ℕ) → Below w n l j k → reaches q (tight_side w n q l j) (coord_of w n q k) ≡ true
  unfolding tight_side Below
  tight_in q zero j h e k b =
      let r = run_at w n m ok j h in
      best_in q (coord_of w n q) (first_of w n j) (count_of w n j - 1) k b.0 (omega (arith, b.1, r.some))
  tight_in q (suc l) j h e k b =
      let r = run_at w n m ok j h in
      let x = child w n m ok j l h e b.0 b.1 b.2 in
      reaches_trans q _ (tight_side w n q l b.0) _
      (best_in q (tight_side w n q l) (first_of w n j) (count_of w n j - 1) b.0 b.1 (omega (arith, b.2, r.some)))
      (tight_in q l b.0 (omega (arith, x.1)) x.0 k b.3)

  -- and one lies on each side
  pub tight_touch : (q l j : ℕ) → j < m → level_of w n j ≡ l → (k : ℕ) × Below w n l j k × (tight_side w n q l j ≡ coord_of w n q k)
  unfolding tight_side Below
  tight_touch q zero j h e =
      let r = run_at w n m ok j h in
      let b = best_one q (coord_of w n q) (first_of w n j) (count_of w n j - 1) in
      (b.0, (b.1, omega (arith, b.2, r.some)), b.3)
  tight_touch q (suc l) j h e =
      let r = run_at w n m ok j h in
      let b = best_one q (tight_side w n q l) (first_of w n j) (count_of w n j - 1) in
      let u : b.0 < first_of w n j + count_of w n j = omega (arith, b.2, r.some) in
      let x = child w n m ok j l h e b.0 b.1 u in
      let t = tight_touch q l b.0 (omega (arith, x.1)) x.0 in
      (t.0, (b.0, b.1, u, t.1), b.3 ∙ t.2)
