-- The weight of what stands below a node, for any weight of points and of nodes: that of the root is the weight of all points and all nodes. It bounds the steps of a walk, with the
-- weight 1 of each; and says that a point is met once, with the weight 1 of that point alone.
-- Assumes nothing.
use mathlib.Core.Path.{◌≡◌, refl, sym, ap, subst, ◌∙◌}
use mathlib.Core.Bool.{Bool, true, false, ◌||◌}
use mathlib.Core.Logic.{⊎_elim}
use mathlib.Core.List.{List}
use Prim.Native.Nat.{ℕ, zero, suc, ◌+◌, ◌-◌, ◌<◌, ◌≤◌}
use native.Mathlib.Omega.{arith}
use native.Mathlib.Numerals.{add-one}
use lib.IntN.{ℤ}
use lib.Dec.{eqb}
use Rattle.integers.proofs.Bools.{decide}
use Rattle.sheet.specs.declared.Due.{Due}
use Rattle.sheet.specs.Order.{order_of}
use Rattle.sheet.specs.Nodes.{level_of, first_of, count_of, same_level, due_of, is_last, table_ok}
use Rattle.sheet.specs.Boxes.{sum_over}
use Rattle.sheet.proofs.TreeLaws.{run_at, end_at, stands, run_top, due_same, due_up, last_end}
use Rattle.sheet.proofs.CoverLaws.{sheet_one_at}
use Rattle.sheet.proofs.SizeLaws.{sum_join}

-- `f` weighs positions, `b` nodes: the point at place k, and all from node j on level l down
unfoldable pub at_place : List ℤ → ℕ → (ℕ → ℕ) → ℕ → ℕ
at_place w n f k = f (order_of w n k)

unfoldable pub mass : List ℤ → ℕ → (ℕ → ℕ) → (ℕ → ℕ) → ℕ → ℕ → ℕ
mass w n f b zero j = b j + sum_over (at_place w n f) (first_of w n j) (count_of w n j)
mass w n f b (suc l) j = b j + sum_over (mass w n f b l) (first_of w n j) (count_of w n j)

module _ (w : List ℤ) (n : ℕ) (f b : ℕ → ℕ) where
  -- the weight of a run of what level l covers
  run_mass : ℕ → ℕ → ℕ → ℕ
  run_mass zero a c = sum_over (at_place w n f) a c
  run_mass (suc l) a c = sum_over (mass w n f b l) a c

  run_join : (l a c e : ℕ) → run_mass l a (c + e) ≡ run_mass l a c + run_mass l (a + c) e
  unfolding run_mass
  run_join zero a c e = sum_join (at_place w n f) a c e
  run_join (suc l) a c e = sum_join (mass w n f b l) a c e

  run_none : (l a : ℕ) → run_mass l a 0 ≡ 0
  unfolding run_mass sum_over
  run_none zero a = refl
  run_none (suc l) a = refl

  mass_is : (l j : ℕ) → mass w n f b l j ≡ b j + run_mass l (first_of w n j) (count_of w n j)
  unfolding run_mass mass
  mass_is zero j = refl
  mass_is (suc l) j = refl

  run_split : (l a c t : ℕ) → a + c ≤ t → run_mass l a (t - a) ≡ run_mass l a c + run_mass l (a + c) (t - (a + c))
  run_split l a c t h = ap (run_mass l a) z ∙ run_join l a c (t - (a + c))
    where
      z : t - a ≡ c + (t - (a + c))
      z = omega arith

  -- the weight from the nodes of a level up to node j down, and of what the level has yet to cover
  Total : ℕ → ℕ → ℕ → ℕ → Type 0
  Total j l h t = sum_over (mass w n f b l) h (j + 1 - h) + run_mass l (first_of w n j + count_of w n j) (t - (first_of w n j + count_of w n j)) ≡ sum_over (at_place w n f) 0 n + sum_over b 0 (j + 1)

  sum_up : (j : ℕ) → sum_over b 0 (suc j + 1) ≡ sum_over b 0 (j + 1) + b (suc j)
  unfolding sum_over
  sum_up j =
      let z : suc j + 1 ≡ suc (j + 1) = omega arith in
      let y : 0 + (j + 1) ≡ suc j = omega arith in
      ap (sum_over b 0) z ∙ ap (λ (i : ℕ). sum_over b 0 (j + 1) + b i) y

  total_same : (j l h t : ℕ) → h ≤ j → first_of w n (suc j) ≡ first_of w n j + count_of w n j → first_of w n (suc j) + count_of w n (suc j) ≤ t → Total j l h t → Total (suc j) l h t
  unfolding Total sum_over
  total_same j l h t a e c x =
      let g = mass w n f b l in
      let u : sum_over g h (suc j + 1 - h) ≡ sum_over g h (j + 1 - h) + g (h + (j + 1 - h)) = ap (sum_over g h) z in
      let v : g (h + (j + 1 - h)) ≡ b (suc j) + run_mass l (first_of w n (suc j)) (count_of w n (suc j)) = ap g y ∙ mass_is l (suc j) in
      let s = run_split l (first_of w n (suc j)) (count_of w n (suc j)) t c in
      let r : run_mass l (first_of w n (suc j)) (t - first_of w n (suc j)) ≡ run_mass l (first_of w n j + count_of w n j) (t - (first_of w n j + count_of w n j)) = ap (λ (k : ℕ). run_mass l k (t - k)) e in
      let d = sum_up j in
      omega arith
    where
      z : suc j + 1 - h ≡ suc (j + 1 - h)
      z = omega arith

      y : h + (j + 1 - h) ≡ suc j
      y = omega arith

  over : (l a c : ℕ) → run_mass (suc l) a c ≡ sum_over (mass w n f b l) a c
  unfolding run_mass
  over l a c = refl

  total_up : (j l h t : ℕ) → h ≤ j → first_of w n j + count_of w n j ≡ t → first_of w n (suc j) ≡ h → first_of w n (suc j) + count_of w n (suc j) ≤ j + 1 → Total j l h t → Total (suc j) (suc l) (j + 1) (j + 1)
  unfolding Total sum_over
  total_up j l h t a e s₀ c x =
      let g = mass w n f b (suc l) in
      let u : sum_over g (j + 1) (suc j + 1 - (j + 1)) ≡ 0 + g (j + 1 + 0) = ap (sum_over g (j + 1)) z in
      let v : g (j + 1 + 0) ≡ b (suc j) + run_mass (suc l) (first_of w n (suc j)) (count_of w n (suc j)) = ap g y ∙ mass_is (suc l) (suc j) in
      let s = run_split (suc l) (first_of w n (suc j)) (count_of w n (suc j)) (j + 1) c in
      let r : run_mass (suc l) (first_of w n (suc j)) (j + 1 - first_of w n (suc j)) ≡ sum_over (mass w n f b l) h (j + 1 - h) = ap (λ (k : ℕ). run_mass (suc l) k (j + 1 - k)) s₀ ∙ over l h (j + 1 - h) in
      let q : run_mass l (first_of w n j + count_of w n j) (t - (first_of w n j + count_of w n j)) ≡ 0 = ap (run_mass l (first_of w n j + count_of w n j)) o ∙ run_none l _ in
      let d = sum_up j in
      omega arith
    where
      z : suc j + 1 - (j + 1) ≡ 1
      z = omega arith

      y : j + 1 + 0 ≡ suc j
      y = omega arith

      o : t - (first_of w n j + count_of w n j) ≡ 0
      o = omega arith

  -- a level of one node, all covered
  root_of : (j l h t : ℕ) → h ≡ j → first_of w n j + count_of w n j ≡ t → Total j l h t → mass w n f b l j ≡ sum_over (at_place w n f) 0 n + sum_over b 0 (j + 1)
  unfolding Total sum_over
  root_of j l h t e d x =
      let g = mass w n f b l in
      let u : sum_over g h (j + 1 - h) ≡ 0 + g (h + 0) = ap (sum_over g h) z in
      let v : g (h + 0) ≡ g j = ap g y in
      let q : run_mass l (first_of w n j + count_of w n j) (t - (first_of w n j + count_of w n j)) ≡ 0 = ap (run_mass l (first_of w n j + count_of w n j)) o ∙ run_none l _ in
      omega arith
    where
      z : j + 1 - h ≡ 1
      z = omega arith

      y : h + 0 ≡ j
      y = omega arith

      o : t - (first_of w n j + count_of w n j) ≡ 0
      o = omega arith

  module _ (m : ℕ) (ok : table_ok w n m ≡ true) where
    -- no level is left before it is covered
    up_last : (j : ℕ) → same_level w n j ≡ false → is_last w n m j ≡ true
    unfolding is_last
    up_last j e = rw e (or_true (eqb (j + 1) m))
      where
        or_true : (t : Bool) → (t || true) ≡ true
        or_true true = refl
        or_true false = refl

    total_step : (j : ℕ) → suc j < m → Total j (due_of w n j).level (due_of w n j).head (due_of w n j).top → Total (suc j) (due_of w n (suc j)).level (due_of w n (suc j)).head (due_of w n (suc j)).top
    total_step j h x =
        let s = stands w n m ok j (omega arith) in
        let r = run_at w n m ok (suc j) h in
        let t = run_top w n m ok (suc j) h in
        ⊎_elim
        (λ (e : same_level w n j ≡ true).
        let d = due_same w n j e in
        subst (λ (y : Due). Total (suc j) y.level y.head y.top) (sym d)
        (total_same j _ _ _ s.head_le (r.first ∙ ap (λ (y : Due). y.next) d) (omega (arith, ap (λ (y : Due). y.top) d)) x))
        (λ (e : same_level w n j ≡ false).
        let d = due_up w n j e in
        subst (λ (y : Due). Total (suc j) y.level y.head y.top) (sym d)
        (subst (λ (i : ℕ). Total (suc j) i (j + 1) (j + 1)) (sym (add-one (due_of w n j).level))
        (total_up j _ _ _ s.head_le (end_at w n m ok j (omega arith) (up_last j e)) (r.first ∙ ap (λ (y : Due). y.next) d) (omega (arith, ap (λ (y : Due). y.top) d)) x)))
        (decide (same_level w n j))

    total_first : 0 < m → Total 0 0 0 n
    unfolding Total sum_over run_mass due_of
    total_first h =
        let a : first_of w n 0 ≡ 0 = (run_at w n m ok 0 h).first in
        let c : first_of w n 0 + count_of w n 0 ≤ n = run_top w n m ok 0 h in
        let x = mass_is 0 0 in
        let s = run_split 0 (first_of w n 0) (count_of w n 0) n c in
        let r : run_mass 0 (first_of w n 0) (n - first_of w n 0) ≡ run_mass 0 0 n = ap (λ (k : ℕ). run_mass 0 k (n - k)) a ∙ ap (run_mass 0 0) none in
        omega arith
      where
        none : n - 0 ≡ n
        none = omega arith

    total : (j : ℕ) → j < m → Total j (due_of w n j).level (due_of w n j).head (due_of w n j).top
    unfolding due_of
    total zero h = total_first h
    total (suc j) h = total_step j h (total j (omega arith))

    -- all points and all m nodes are weighed from the root
    pub root_mass : 0 < m → mass w n f b (level_of w n (m - 1)) (m - 1) ≡ sum_over (at_place w n f) 0 n + sum_over b 0 m
    root_mass h =
        ap (λ (i : ℕ). mass w n f b i (m - 1)) (run_at w n m ok (m - 1) below).level
        ∙ root_of (m - 1) _ _ _ (sheet_one_at w n m ok (m - 1) below l e) (end_at w n m ok (m - 1) below l) (total (m - 1) below)
        ∙ ap (λ (k : ℕ). sum_over (at_place w n f) 0 n + sum_over b 0 k) e
      where
        below : m - 1 < m
        below = omega arith

        e : m - 1 + 1 ≡ m
        e = omega arith

        l : is_last w n m (m - 1) ≡ true
        l = last_end w n m (m - 1) e
