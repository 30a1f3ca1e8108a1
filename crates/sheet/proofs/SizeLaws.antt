-- The root of a right table has all m nodes from it down: what bounds the nodes that a walk opens.
-- Assumes nothing.
use mathlib.Core.Path.{◌≡◌, refl, sym, ap, subst, ◌∙◌}
use mathlib.Core.Bool.{Bool, true, false, ◌||◌}
use mathlib.Core.Logic.{⊎_elim}
use mathlib.Core.List.{List}
use Prim.Native.Nat.{ℕ, zero, suc, ◌+◌, ◌-◌, ◌<◌, ◌≤◌}
use native.Mathlib.Omega.{arith}
use lib.IntN.{ℤ}
use lib.Dec.{eqb}
use native.Mathlib.Numerals.{add-one}
use Rattle.integers.proofs.Bools.{decide}
use Rattle.sheet.specs.declared.Due.{Due}
use Rattle.sheet.specs.Nodes.{level_of, first_of, count_of, same_level, due_of, is_last, table_ok}
use Rattle.sheet.specs.Boxes.{sum_over, tree_size}
use Rattle.sheet.proofs.TreeLaws.{run_at, end_at, stands, run_top, due_same, due_up, last_end}
use Rattle.sheet.proofs.CoverLaws.{sheet_one_at}

pub sum_join : (f : ℕ → ℕ) (a c e : ℕ) → sum_over f a (c + e) ≡ sum_over f a c + sum_over f (a + c) e
unfolding sum_over
sum_join f a c zero = ap (sum_over f a) z ∙ omega arith
  where
    z : c + 0 ≡ c
    z = omega arith
sum_join f a c (suc e) =
    ap (sum_over f a) z ∙ go (sum_join f a c e)
  where
    z : c + suc e ≡ suc (c + e)
    z = omega arith

    y : a + (c + e) ≡ a + c + e
    y = omega arith

    go : sum_over f a (c + e) ≡ sum_over f a c + sum_over f (a + c) e → sum_over f a (c + e) + f (a + (c + e)) ≡ sum_over f a c + (sum_over f (a + c) e + f (a + c + e))
    go ih = let q = ap f y in omega arith

-- the nodes below a run of what level l covers: none below places
run_sum : List ℤ → ℕ → ℕ → ℕ → ℕ → ℕ
run_sum w n zero a c = 0
run_sum w n (suc l) a c = sum_over (tree_size w n l) a c

run_join : (w : List ℤ) (n l a c e : ℕ) → run_sum w n l a (c + e) ≡ run_sum w n l a c + run_sum w n l (a + c) e
unfolding run_sum
run_join w n zero a c e = omega arith
run_join w n (suc l) a c e = sum_join (tree_size w n l) a c e

run_none : (w : List ℤ) (n l a : ℕ) → run_sum w n l a 0 ≡ 0
unfolding run_sum sum_over
run_none w n zero a = refl
run_none w n (suc l) a = refl

size_is : (w : List ℤ) (n l j : ℕ) → tree_size w n l j ≡ suc (run_sum w n l (first_of w n j) (count_of w n j))
unfolding run_sum tree_size
size_is w n zero j = refl
size_is w n (suc l) j = refl

-- the nodes from those of a level up to node j down, and from what the level has yet to cover
Total : List ℤ → ℕ → ℕ → ℕ → ℕ → ℕ → Type 0
Total w n j l h t = sum_over (tree_size w n l) h (j + 1 - h) + run_sum w n l (first_of w n j + count_of w n j) (t - (first_of w n j + count_of w n j)) ≡ j + 1

-- a run and what comes after it
run_split : (w : List ℤ) (n l a c t : ℕ) → a + c ≤ t → run_sum w n l a (t - a) ≡ run_sum w n l a c + run_sum w n l (a + c) (t - (a + c))
run_split w n l a c t h = ap (run_sum w n l a) z ∙ run_join w n l a c (t - (a + c))
  where
    z : t - a ≡ c + (t - (a + c))
    z = omega arith

total_same : (w : List ℤ) (n j l h t : ℕ) → h ≤ j → first_of w n (suc j) ≡ first_of w n j + count_of w n j → first_of w n (suc j) + count_of w n (suc j) ≤ t → Total w n j l h t → Total w n (suc j) l h t
unfolding Total sum_over
total_same w n j l h t a e b x =
    let f = tree_size w n l in
    let u : sum_over f h (suc j + 1 - h) ≡ sum_over f h (j + 1 - h) + f (h + (j + 1 - h)) = ap (sum_over f h) z in
    let v : f (h + (j + 1 - h)) ≡ suc (run_sum w n l (first_of w n (suc j)) (count_of w n (suc j))) = ap f y ∙ size_is w n l (suc j) in
    let s = run_split w n l (first_of w n (suc j)) (count_of w n (suc j)) t b in
    let r : run_sum w n l (first_of w n (suc j)) (t - first_of w n (suc j)) ≡ run_sum w n l (first_of w n j + count_of w n j) (t - (first_of w n j + count_of w n j)) = ap (λ (k : ℕ). run_sum w n l k (t - k)) e in
    omega arith
  where
    z : suc j + 1 - h ≡ suc (j + 1 - h)
    z = omega arith

    y : h + (j + 1 - h) ≡ suc j
    y = omega arith

over : (w : List ℤ) (n l a c : ℕ) → run_sum w n (suc l) a c ≡ sum_over (tree_size w n l) a c
unfolding run_sum
over w n l a c = refl

total_up : (w : List ℤ) (n j l h t : ℕ) → h ≤ j → first_of w n j + count_of w n j ≡ t → first_of w n (suc j) ≡ h → first_of w n (suc j) + count_of w n (suc j) ≤ j + 1 → Total w n j l h t → Total w n (suc j) (suc l) (j + 1) (j + 1)
unfolding Total sum_over
total_up w n j l h t a e b c x =
    let f = tree_size w n (suc l) in
    let u : sum_over f (j + 1) (suc j + 1 - (j + 1)) ≡ 0 + f (j + 1 + 0) = ap (sum_over f (j + 1)) z in
    let v : f (j + 1 + 0) ≡ suc (run_sum w n (suc l) (first_of w n (suc j)) (count_of w n (suc j))) = ap f y ∙ size_is w n (suc l) (suc j) in
    let s = run_split w n (suc l) (first_of w n (suc j)) (count_of w n (suc j)) (j + 1) c in
    let r : run_sum w n (suc l) (first_of w n (suc j)) (j + 1 - first_of w n (suc j)) ≡ sum_over (tree_size w n l) h (j + 1 - h) = ap (λ (k : ℕ). run_sum w n (suc l) k (j + 1 - k)) b ∙ over w n l h (j + 1 - h) in
    let q : run_sum w n l (first_of w n j + count_of w n j) (t - (first_of w n j + count_of w n j)) ≡ 0 = ap (run_sum w n l (first_of w n j + count_of w n j)) o ∙ run_none w n l _ in
    omega arith
  where
    z : suc j + 1 - (j + 1) ≡ 1
    z = omega arith

    y : j + 1 + 0 ≡ suc j
    y = omega arith

    o : t - (first_of w n j + count_of w n j) ≡ 0
    o = omega arith

-- a level of one node, all covered
root_of : (w : List ℤ) (n j l h t : ℕ) → h ≡ j → first_of w n j + count_of w n j ≡ t → Total w n j l h t → tree_size w n l j ≡ j + 1
unfolding Total sum_over
root_of w n j l h t e d x =
    let f = tree_size w n l in
    let u : sum_over f h (j + 1 - h) ≡ 0 + f (h + 0) = ap (sum_over f h) z in
    let v : f (h + 0) ≡ f j = ap f y in
    let q : run_sum w n l (first_of w n j + count_of w n j) (t - (first_of w n j + count_of w n j)) ≡ 0 = ap (run_sum w n l (first_of w n j + count_of w n j)) o ∙ run_none w n l _ in
    omega arith
  where
    z : j + 1 - h ≡ 1
    z = omega arith

    y : h + 0 ≡ j
    y = omega arith

    o : t - (first_of w n j + count_of w n j) ≡ 0
    o = omega arith

-- no level is left before it is covered
up_last : (w : List ℤ) (n m j : ℕ) → same_level w n j ≡ false → is_last w n m j ≡ true
unfolding is_last
up_last w n m j e = rw e (or_true (eqb (j + 1) m))
  where
    or_true : (b : Bool) → (b || true) ≡ true
    or_true true = refl
    or_true false = refl

module _ (w : List ℤ) (n m : ℕ) (ok : table_ok w n m ≡ true) where
  total_step : (j : ℕ) → suc j < m → Total w n j (due_of w n j).level (due_of w n j).head (due_of w n j).top → Total w n (suc j) (due_of w n (suc j)).level (due_of w n (suc j)).head (due_of w n (suc j)).top
  total_step j h x =
      let s = stands w n m ok j (omega arith) in
      let r = run_at w n m ok (suc j) h in
      let t = run_top w n m ok (suc j) h in
      ⊎_elim
      (λ (e : same_level w n j ≡ true).
      let d = due_same w n j e in
      subst (λ (y : Due). Total w n (suc j) y.level y.head y.top) (sym d)
      (total_same w n j _ _ _ s.head_le (r.first ∙ ap (λ (y : Due). y.next) d) (omega (arith, ap (λ (y : Due). y.top) d)) x))
      (λ (e : same_level w n j ≡ false).
      let d = due_up w n j e in
      subst (λ (y : Due). Total w n (suc j) y.level y.head y.top) (sym d)
      (subst (λ (i : ℕ). Total w n (suc j) i (j + 1) (j + 1)) (sym (add-one (due_of w n j).level))
      (total_up w n j _ _ _ s.head_le (end_at w n m ok j (omega arith) (up_last w n m j e)) (r.first ∙ ap (λ (y : Due). y.next) d) (omega (arith, ap (λ (y : Due). y.top) d)) x)))
      (decide (same_level w n j))

  total : (j : ℕ) → j < m → Total w n j (due_of w n j).level (due_of w n j).head (due_of w n j).top
  unfolding Total due_of sum_over run_sum tree_size
  total zero h = refl
  total (suc j) h = total_step j h (total j (omega arith))

  -- all m nodes are counted from the root
  pub root_size : 0 < m → tree_size w n (level_of w n (m - 1)) (m - 1) ≡ m
  root_size h =
      ap (λ (i : ℕ). tree_size w n i (m - 1)) (run_at w n m ok (m - 1) b).level
      ∙ root_of w n (m - 1) _ _ _ (sheet_one_at w n m ok (m - 1) b l e) (end_at w n m ok (m - 1) b l) (total (m - 1) b)
      ∙ e
    where
      b : m - 1 < m
      b = omega arith

      e : m - 1 + 1 ≡ m
      e = omega arith

      l : is_last w n m (m - 1) ≡ true
      l = last_end w n m (m - 1) e
