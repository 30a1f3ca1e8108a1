-- Every place is below the root of a right table, and below exactly one node of each level.
-- Assumes nothing.
use mathlib.Core.Path.{◌≡◌, refl, sym, ap, subst, ◌∙◌}
use mathlib.Core.Bool.{Bool, true, false, not, cond, ◌&&◌, ◌||◌, beq}
use mathlib.Core.Logic.{◌⊎◌, inl, inr, ⊎_elim}
use mathlib.Core.List.{List}
use Prim.Native.Nat.{ℕ, zero, suc, ◌+◌, ◌-◌, ◌<◌, ◌≤◌}
use native.Mathlib.Omega.{arith}
use native.Mathlib.Nat.{eq-or-lt_of_le}
use lib.Dec.{ltb, eqb}
use lib.IntN.{ℤ}
use borrow.Author.Tests.{ltb-true, ltb-false, eqb-true, eq-eqb, ne_eqb}
use Rattle.integers.proofs.Bools.{and_right, decide}
use Rattle.words.proofs.AllLaws.{all_at, below_suc}
use Rattle.sheet.specs.declared.Due.{Due}
use Rattle.sheet.specs.Nodes.{level_of, first_of, count_of, same_level, due_of, run_ok, is_last, end_ok, node_rule, node_ok, table_ok}
use Rattle.sheet.specs.Boxes.{Below}
use Rattle.sheet.proofs.TreeLaws.{run_at, end_at, stands, due_same, due_up, last_end, not_last, child}

-- the one_node rule at a level's last node
end_beq : (w : List ℤ) (n m : ℕ) (d : Due) (j : ℕ) → end_ok w n m d j ≡ true → is_last w n m j ≡ true → beq (eqb d.head j) (eqb (j + 1) m) ≡ true
unfolding end_ok
end_beq w n m d j e l =
    let x = eqb (first_of w n j + count_of w n j) d.top in
    let y = beq (eqb d.head j) (eqb (j + 1) m) in
    and_right x y (subst (λ (b : Bool). cond b (x && y) true ≡ true) l e)

last_up : (w : List ℤ) (n m j : ℕ) → is_last w n m j ≡ true → (j + 1 ≡ m → ⊥) → same_level w n j ≡ false
unfolding is_last
last_up w n m j e f = go (same_level w n j) (subst (λ (b : Bool). (b || not (same_level w n j)) ≡ true) (ne_eqb (j + 1) m f) e)
  where
    go : (b : Bool) → (false || not b) ≡ true → b ≡ false
    go true e = sym e
    go false e = refl

beq_left : (a b : Bool) → beq a b ≡ true → b ≡ true → a ≡ true
beq_left true b e f = refl
beq_left false true e f = e
beq_left false false e f = f

-- place k is below one node of level l, and below no other
pub record OneNode (w : List ℤ) (n m l k : ℕ) : Type 0 where
  pub node : ℕ
  pub here : node < m
  pub level : level_of w n node ≡ l
  pub below : Below w n l node k
  pub only : (j : ℕ) → j < m → level_of w n j ≡ l → Below w n l j k → j ≡ node

module _ (w : List ℤ) (n m : ℕ) (ok : table_ok w n m ≡ true) where
  pub sheet_one_at : (j : ℕ) → j < m → is_last w n m j ≡ true → j + 1 ≡ m → (due_of w n j).head ≡ j
  unfolding table_ok node_ok node_rule
  sheet_one_at j h l e =
      eqb-true _ _ (beq_left _ _ (end_beq w n m (due_of w n j) j (and_right (run_ok w n (due_of w n j) j) (end_ok w n m (due_of w n j) j) (all_at (node_ok w n m) m ok j h)) l) (eq-eqb (j + 1) m e))

  -- the last node of the level of node j
  LastOf : ℕ → Type 0
  LastOf j = (f : ℕ) × (j ≤ f) × (f < m) × (is_last w n m f ≡ true) × ((due_of w n f).head ≡ (due_of w n j).head) × ((due_of w n f).top ≡ (due_of w n j).top) × ((due_of w n f).level ≡ (due_of w n j).level)

  last_of' : (t j : ℕ) → j + suc t ≡ m → LastOf j
  unfolding LastOf
  last_of' zero j e = (j, omega arith, omega arith, last_end w n m j (omega arith), refl, refl, refl)
  last_of' (suc t) j e =
      ⊎_elim
      (λ (l : is_last w n m j ≡ true). (j, omega arith, omega arith, l, refl, refl, refl))
      (λ (l : is_last w n m j ≡ false).
      let d = due_same w n j (not_last w n m j l) in
      let x = last_of' t (suc j) (omega arith) in
      (x.0, omega (arith, x.1), x.2, x.3, x.4 ∙ ap (λ (y : Due). y.head) d, x.5 ∙ ap (λ (y : Due). y.top) d, x.6 ∙ ap (λ (y : Due). y.level) d))
      (decide (is_last w n m j))

  last_of : (j : ℕ) → j < m → LastOf j
  last_of j h = last_of' (m - suc j) j (omega arith)

  -- the nodes of a level up to node j cover all from the level's first run to the end of that of j
  Covers : ℕ → ℕ → Type 0
  Covers j i = (p : ℕ) × ((due_of w n j).head ≤ p) × (p ≤ j) × (first_of w n p ≤ i) × (i < first_of w n p + count_of w n p)

  cover : (j : ℕ) → j < m → (i : ℕ) → first_of w n (due_of w n j).head ≤ i → i < first_of w n j + count_of w n j → Covers j i
  unfolding Covers due_of
  cover zero h i a b = (0, omega arith, omega arith, a, b)
  cover (suc j) h i a b =
      ⊎_elim
      (λ (e : same_level w n j ≡ true).
      let d = due_same w n j e in
      let dh = ap (λ (y : Due). y.head) d in
      let r = run_at w n m ok (suc j) h in
      let s = stands w n m ok j (omega arith) in
      ⊎_elim
      (λ (l : ltb i (first_of w n (suc j)) ≡ true).
      let x = cover j (omega arith) i (subst (λ (k : ℕ). first_of w n k ≤ i) dh a) (omega (arith, ltb-true i (first_of w n (suc j)) l, r.first, ap (λ (y : Due). y.next) d)) in
      (x.0, omega (arith, x.1, dh), omega (arith, x.2), x.3, x.4))
      (λ (l : ltb i (first_of w n (suc j)) ≡ false). (suc j, omega (arith, dh, s.head_le), omega arith, ltb-false i (first_of w n (suc j)) l, b))
      (decide (ltb i (first_of w n (suc j)))))
      (λ (e : same_level w n j ≡ false).
      let dh = ap (λ (y : Due). y.head) (due_up w n j e) in
      (suc j, omega (arith, dh), omega arith, subst (λ (k : ℕ). first_of w n k ≤ i) (dh ∙ z) a, b))
      (decide (same_level w n j))
    where
      z : j + 1 ≡ suc j
      z = omega arith

  -- every node but the last of the table is covered by one a level up
  pub parent : (i : ℕ) → suc i < m → (p : ℕ) × (i < p) × (p < m) × (level_of w n p ≡ suc (level_of w n i)) × (first_of w n p ≤ i) × (i < first_of w n p + count_of w n p)
  unfolding LastOf Covers
  parent i h =
      let si = stands w n m ok i (omega arith) in
      let ri = run_at w n m ok i (omega arith) in
      let f = last_of i (omega arith) in
      let sf = stands w n m ok f.0 f.2 in
      let no : f.0 + 1 ≡ m → ⊥ = λ e. omega (arith, sheet_one_at f.0 f.2 f.3 e, f.4, si.head_le) in
      let d = due_up w n f.0 (last_up w n m f.0 f.3 no) in
      let hj : suc f.0 < m = below f.0 f.2 no in
      let rj = run_at w n m ok (suc f.0) hj in
      let g = last_of (suc f.0) hj in
      let sg = stands w n m ok g.0 g.2 in
      let gh : (due_of w n g.0).head ≡ suc f.0 = omega (arith, g.4, ap (λ (y : Due). y.head) d) in
      let a : first_of w n (due_of w n g.0).head ≤ i =
      subst (λ (k : ℕ). first_of w n k ≤ i) (sym gh) (omega (arith, rj.first, ap (λ (y : Due). y.next) d, f.4, si.head_le)) in
      let b : i < first_of w n g.0 + count_of w n g.0 = omega (arith, end_at w n m ok g.0 g.2 g.3, g.5, ap (λ (y : Due). y.top) d, f.1) in
      let c = cover g.0 g.2 i a b in (
        c.0,
        omega (arith, c.1, gh, f.1),
        omega (arith, c.2, g.2),
        omega (arith, sg.mates c.0 c.1 c.2, g.6, ap (λ (y : Due). y.level) d, f.6, ri.level),
        c.3,
        c.4,
      )
    where
      below : (f : ℕ) → f < m → (f + 1 ≡ m → ⊥) → suc f < m
      below f a b = ⊎_elim (λ (e : eqb (f + 1) m ≡ true). absurd (b (eqb-true (f + 1) m e))) (λ (e : eqb (f + 1) m ≡ false). ⊎_elim (λ (l : ltb (suc f) m ≡ true). ltb-true (suc f) m l) (λ (l : ltb (suc f) m ≡ false). absurd (b (omega (arith, ltb-false (suc f) m l)))) (decide (ltb (suc f) m))) (decide (eqb (f + 1) m))

  -- every place is covered by a leaf
  pub leaf_at : 0 < m → (k : ℕ) → k < n → (p : ℕ) × (p < m) × (level_of w n p ≡ 0) × (first_of w n p ≤ k) × (k < first_of w n p + count_of w n p)
  unfolding LastOf Covers due_of
  leaf_at h k l =
      let r = run_at w n m ok 0 h in
      let f = last_of 0 h in
      let s = stands w n m ok f.0 f.2 in
      let a : first_of w n (due_of w n f.0).head ≤ k = subst (λ (i : ℕ). first_of w n i ≤ k) (sym f.4) (omega (arith, r.first)) in
      let c = cover f.0 f.2 k a (omega (arith, end_at w n m ok f.0 f.2 f.3, f.5)) in
      (c.0, omega (arith, c.2, f.2), s.mates c.0 c.1 c.2 ∙ f.6, c.3, c.4)

  climb : (k t j : ℕ) → j < m → m ≤ j + suc t → Below w n (level_of w n j) j k → Below w n (level_of w n (m - 1)) (m - 1) k
  unfolding Below
  climb k zero j h a b = let e : j ≡ m - 1 = omega arith in subst (λ (i : ℕ). Below w n (level_of w n i) i k) e b
  climb k (suc t) j h a b =
      ⊎_elim
      (λ (l : ltb (suc j) m ≡ true).
      let p = parent j (ltb-true (suc j) m l) in
      climb k t p.0 p.2 (omega (arith, p.1)) (subst (λ (i : ℕ). Below w n i p.0 k) (sym p.3) (j, p.4, p.5, b)))
      (λ (l : ltb (suc j) m ≡ false). let e : j ≡ m - 1 = omega (arith, ltb-false (suc j) m l) in subst (λ (i : ℕ). Below w n (level_of w n i) i k) e b)
      (decide (ltb (suc j) m))

  -- so every place is below the root
  pub root_below : 0 < m → (k : ℕ) → k < n → Below w n (level_of w n (m - 1)) (m - 1) k
  unfolding Below
  root_below h k l =
      let p = leaf_at h k l in
      climb k m p.0 p.1 (omega arith) (subst (λ (i : ℕ). Below w n i p.0 k) (sym p.2) (p.3, p.4))

  -- levels do not fall along the table, and the runs of one level follow each other
  pub Follows : ℕ → ℕ → Type 0
  Follows i j = (level_of w n i < level_of w n j) ⊎ ((level_of w n i ≡ level_of w n j) × (first_of w n i + count_of w n i ≤ first_of w n j))

  follow_one : (j : ℕ) → suc j < m → Follows j (suc j)
  unfolding Follows
  follow_one j h =
      let r = run_at w n m ok j (omega arith) in
      let r' = run_at w n m ok (suc j) h in
      ⊎_elim
      (λ (e : same_level w n j ≡ true).
      let d = due_same w n j e in
      inr (r.level ∙ sym (ap (λ (y : Due). y.level) d) ∙ sym r'.level, omega (arith, r'.first, ap (λ (y : Due). y.next) d)))
      (λ (e : same_level w n j ≡ false). inl (omega (arith, r.level, r'.level, ap (λ (y : Due). y.level) (due_up w n j e))))
      (decide (same_level w n j))

  pub follows : (j i : ℕ) → j < m → i < j → Follows i j
  unfolding Follows
  follows zero i h l = absurd (omega arith)
  follows (suc j) i h l =
      ⊎_elim
      (λ (e : i ≡ j). subst (λ (k : ℕ). Follows k (suc j)) (sym e) (follow_one j h))
      (λ (g : i < j).
      ⊎_elim
      (λ (a : level_of w n i < level_of w n j). ⊎_elim (λ (b : level_of w n j < level_of w n (suc j)). inl (omega arith)) (λ b. inl (omega (arith, b.0))) (follow_one j h))
      (λ a. ⊎_elim (λ (b : level_of w n j < level_of w n (suc j)). inl (omega (arith, a.0))) (λ b. inr (omega (arith, a.0, b.0), omega (arith, a.1, b.1))) (follow_one j h))
      (follows j i (omega arith) g))
      (below_suc i j l)

  -- two nodes of one level share nothing
  apart : (i j k : ℕ) → i < m → j < m → level_of w n i ≡ level_of w n j → first_of w n i ≤ k → k < first_of w n i + count_of w n i → first_of w n j ≤ k → k < first_of w n j + count_of w n j → i ≡ j
  unfolding Follows
  apart i j k hi hj e a b c d =
      ⊎_elim
      (λ (x : ltb i j ≡ true). ⊎_elim (λ (y : level_of w n i < level_of w n j). absurd (omega arith)) (λ y. absurd (omega (arith, y.1))) (follows j i hj (ltb-true i j x)))
      (λ (x : ltb i j ≡ false).
      ⊎_elim
      (λ (z : ltb j i ≡ true). ⊎_elim (λ (y : level_of w n j < level_of w n i). absurd (omega arith)) (λ y. absurd (omega (arith, y.1))) (follows i j hi (ltb-true j i z)))
      (λ (z : ltb j i ≡ false). omega (arith, ltb-false i j x, ltb-false j i z))
      (decide (ltb j i)))
      (decide (ltb i j))

  -- so a place is below one node of a level at most
  pub below_one : (l i j k : ℕ) → i < m → j < m → level_of w n i ≡ l → level_of w n j ≡ l → Below w n l i k → Below w n l j k → i ≡ j
  unfolding Below
  below_one zero i j k hi hj ei ej a b = apart i j k hi hj (ei ∙ sym ej) a.0 a.1 b.0 b.1
  below_one (suc l) i j k hi hj ei ej a b =
      let x = child w n m ok i l hi ei a.0 a.1 a.2 in
      let y = child w n m ok j l hj ej b.0 b.1 b.2 in
      let e = below_one l a.0 b.0 k (omega (arith, x.1)) (omega (arith, y.1)) x.0 y.0 a.3 b.3 in
      apart i j a.0 hi hj (ei ∙ sym ej) a.1 a.2 (omega (arith, b.1, e)) (omega (arith, b.2, e))

  -- what is below a node is below one of each level under it
  down : (k t j : ℕ) → j < m → level_of w n j ≡ t → Below w n t j k → (l : ℕ) → l ≤ t → OneNode w n m l k
  unfolding Below
  down k zero j h e b l a =
      let z : l ≡ 0 = omega arith in
      subst (λ (i : ℕ). OneNode w n m i k) (sym z) (record { node = j; here = h; level = e; below = b; only = λ i g f c. below_one 0 i j k g h f e c b })
  down k (suc t) j h e b l a =
      ⊎_elim
      (λ (q : l ≡ suc t).
      subst (λ (i : ℕ). OneNode w n m i k) (sym q) (record { node = j; here = h; level = e; below = b; only = λ i g f c. below_one (suc t) i j k g h f e c b }))
      (λ (q : l < suc t).
      let x = child w n m ok j t h e b.0 b.1 b.2 in
      down k t b.0 (omega (arith, x.1)) x.0 b.3 l (omega arith))
      (eq-or-lt_of_le a)

  -- so a place is below exactly one node of each level up to the root's
  pub one_node : 0 < m → (k : ℕ) → k < n → (l : ℕ) → l ≤ level_of w n (m - 1) → OneNode w n m l k
  one_node h k b l a = down k (level_of w n (m - 1)) (m - 1) (omega arith) refl (root_below h k b) l a
