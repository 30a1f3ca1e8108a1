-- Laws of walks, for any state: what each step keeps true, the whole walk keeps true; and a walk opens at most the nodes there are.
-- Assumes nothing.
use mathlib.Core.Path.{◌≡◌, refl, sym, ap, subst, ◌∙◌}
use mathlib.Core.Bool.{Bool, true, false, cond}
use mathlib.Core.Logic.{⊎_elim}
use mathlib.Core.List.{List}
use Prim.Native.Nat.{ℕ, zero, suc, ◌+◌, ◌-◌, ◌<◌, ◌≤◌}
use native.Mathlib.Omega.{arith}
use native.Mathlib.Nat.{eq-or-lt_of_le, pos_of_ne-zero}
use lib.Dec.{eqb}
use lib.IntN.{ℤ}
use borrow.Author.Tests.{eqb-true, eqb-false}
use Rattle.sheet.specs.Nodes.{level_of, first_of, count_of, table_ok}
use Rattle.sheet.specs.Boxes.{Below, sum_over, tree_size}
use Rattle.sheet.proofs.TreeLaws.{child, leaf}
use Rattle.sheet.proofs.CoverLaws.{root_below}
use Rattle.sheet.proofs.SizeLaws.{sum_join, root_size}
use Rattle.walk.specs.Walk.{in_turn, walk, walk_all}

-- ---- what a walk brings about

-- `Good s`: s is a right state; `More s t`: t is s or comes after it; `Done s k`: place k is dealt with in s
pub record Steps {S : Type 0} (Good : S → Type 0) (More : S → S → Type 0) (Done : S → ℕ → Type 0) : Type 0 where
  pub same : (s : S) → More s s
  pub after : (s t u : S) → More s t → More t u → More s u
  pub still : (s t : S) (k : ℕ) → More s t → Done s k → Done t k

module _ {S : Type 0} (Good : S → Type 0) (More : S → S → Type 0) (Done : S → ℕ → Type 0) where
  -- from s to t, with all places of C dealt with
  pub record Does (s t : S) (C : ℕ → Type 0) : Type 0 where
    pub good : Good t
    pub more : More s t
    pub done : (k : ℕ) → C k → Done t k

module _ {S : Type 0} (Good : S → Type 0) (More : S → S → Type 0) (Done : S → ℕ → Type 0) (steps : Steps Good More Done) where
  -- what each of c numbers from a on does, all do in turn
  pub turn_does : (f : ℕ → S → S) (C : ℕ → ℕ → Type 0) (c a : ℕ) → ((i : ℕ) → a ≤ i → i < a + c → (s : S) → Good s → Does Good More Done s (f i s) (C i)) → (s : S) → Good s → Does Good More Done s (in_turn f c a s) (λ k. (i : ℕ) × (a ≤ i) × (i < a + c) × C i k)
  unfolding in_turn
  turn_does f C zero a one s g = record { good = g; more = steps.same s; done = λ k x. absurd (omega (arith, x.1, x.2)) }
  turn_does f C (suc c) a one s g =
      let h = one a (omega arith) (omega arith) s g in
      let t = turn_does f C c (a + 1) (λ i l u. one i (omega arith) (omega arith)) (f a s) h.good in
      record {
        good = t.good;
        more = steps.after _ _ _ h.more t.more;
        done = λ k x.
            ⊎_elim
            (λ (e : a ≡ x.0). steps.still _ _ k t.more (h.done k (subst (λ (i : ℕ). C i k) (sym e) x.3)))
            (λ (l : a < x.0). t.done k (x.0, omega arith, omega (arith, x.2), x.3))
            (eq-or-lt_of_le x.1);
      }

  module _ (w : List ℤ) (n m : ℕ) (ok : table_ok w n m ≡ true) (visit : ℕ → (S → S) → S → S) (take : ℕ → S → S)
      (take_does : (k : ℕ) → k < n → (s : S) → Good s → Does Good More Done s (take k s) (λ i. i ≡ k))
      (visit_does : (l j : ℕ) → j < m → level_of w n j ≡ l → (go : S → S) → ((s : S) → Good s → Does Good More Done s (go s) (Below w n l j)) → (s : S) → Good s → Does Good More Done s (visit j go s) (Below w n l j)) where
    -- a walk from node j down deals with every place below it
    pub walk_does : (l j : ℕ) → j < m → level_of w n j ≡ l → (s : S) → Good s → Does Good More Done s (walk w n visit take l j s) (Below w n l j)
    unfolding walk Below
    walk_does zero j h e s g =
        visit_does zero j h e _
        (λ s₁ g₁.
        let t = turn_does take (λ i k. k ≡ i) (count_of w n j) (first_of w n j) (λ i a b. take_does i (leaf w n m ok j h e i b)) s₁ g₁ in
        record { good = t.good; more = t.more; done = λ k x. t.done k (k, x.0, x.1, refl) })
        s g
    walk_does (suc l) j h e s g =
        visit_does (suc l) j h e _
        (λ s₁ g₁.
        turn_does (walk w n visit take l) (Below w n l) (count_of w n j) (first_of w n j)
        (λ i a b. let x = child w n m ok j l h e i a b in walk_does l i (omega (arith, x.1)) x.0) s₁ g₁)
        s g

    -- and the walk of a sheet with every place
    pub all_does : (m ≡ 0 → n ≡ 0) → (s : S) → Good s → Does Good More Done s (walk_all w n m visit take s) (λ k. k < n)
    unfolding walk_all
    all_does none s g = go (eqb m 0) refl
      where
        go : (t : Bool) → eqb m 0 ≡ t → Does Good More Done s (cond t s (walk w n visit take (level_of w n (m - 1)) (m - 1) s)) (λ k. k < n)
        go true z = record { good = g; more = steps.same s; done = λ k h. absurd (omega (arith, none (eqb-true m 0 z))) }
        go false z =
            let some : 0 < m = pos_of_ne-zero (eqb-false m 0 z) in
            let d = walk_does (level_of w n (m - 1)) (m - 1) (omega arith) refl s g in
            record { good = d.good; more = d.more; done = λ k h. d.done k (root_below w n m ok some k h) }

-- ---- nodes opened

pub sum_one : (f : ℕ → ℕ) (a c : ℕ) → sum_over f a (suc c) ≡ f a + sum_over f (a + 1) c
unfolding sum_over
sum_one f a c =
    let e : suc c ≡ 1 + c = omega arith in
    let z : a + 0 ≡ a = omega arith in
    ap (sum_over f a) e ∙ sum_join f a 1 c ∙ (rw z (omega arith))

module _ {S : Type 0} (opened : S → ℕ) where
  pub turn_opened : (f : ℕ → S → S) (cost : ℕ → ℕ) → ((i : ℕ) (s : S) → opened (f i s) ≤ opened s + cost i) → (c a : ℕ) (s : S) → opened (in_turn f c a s) ≤ opened s + sum_over cost a c
  unfolding in_turn
  turn_opened f cost one zero a s = omega arith
  turn_opened f cost one (suc c) a s = omega (arith, one a s, turn_opened f cost one c (a + 1) (f a s), sum_one cost a c)

  turn_still : (f : ℕ → S → S) → ((i : ℕ) (s : S) → opened (f i s) ≡ opened s) → (c a : ℕ) (s : S) → opened (in_turn f c a s) ≡ opened s
  unfolding in_turn
  turn_still f one zero a s = refl
  turn_still f one (suc c) a s = turn_still f one c (a + 1) (f a s) ∙ one a s

  module _ (w : List ℤ) (n : ℕ) (visit : ℕ → (S → S) → S → S) (take : ℕ → S → S)
      (take_opened : (k : ℕ) (s : S) → opened (take k s) ≡ opened s)
      (visit_opened : (j c : ℕ) (go : S → S) → ((s : S) → opened (go s) ≤ opened s + c) → (s : S) → opened (visit j go s) ≤ opened s + suc c) where
    -- a walk from node j down opens at most the nodes from there down
    pub walk_opened : (l j : ℕ) (s : S) → opened (walk w n visit take l j s) ≤ opened s + tree_size w n l j
    unfolding walk tree_size
    walk_opened zero j s = visit_opened j 0 _ (λ s₁. omega (arith, turn_still take take_opened (count_of w n j) (first_of w n j) s₁)) s
    walk_opened (suc l) j s =
        visit_opened j (sum_over (tree_size w n l) (first_of w n j) (count_of w n j)) _ (λ s₁. turn_opened (walk w n visit take l) (tree_size w n l) (walk_opened l) (count_of w n j) (first_of w n j) s₁) s

    -- so the walk of a sheet opens at most its m nodes
    pub all_opened : (m : ℕ) → table_ok w n m ≡ true → (s : S) → opened (walk_all w n m visit take s) ≤ opened s + m
    unfolding walk_all
    all_opened m ok s = go (eqb m 0) refl
      where
        go : (t : Bool) → eqb m 0 ≡ t → opened (cond t s (walk w n visit take (level_of w n (m - 1)) (m - 1) s)) ≤ opened s + m
        go true z = omega arith
        go false z = omega (arith, walk_opened (level_of w n (m - 1)) (m - 1) s, root_size w n m ok (pos_of_ne-zero (eqb-false m 0 z)))

-- ---- a change of the state that no step sees

module _ {S : Type 0} (g : S → S) where
  turn_shift : (f : ℕ → S → S) → ((i : ℕ) (s : S) → f i (g s) ≡ g (f i s)) → (c a : ℕ) (s : S) → in_turn f c a (g s) ≡ g (in_turn f c a s)
  unfolding in_turn
  turn_shift f one zero a s = refl
  turn_shift f one (suc c) a s = ap (in_turn f c (a + 1)) (one a s) ∙ turn_shift f one c (a + 1) (f a s)

  module _ (w : List ℤ) (n : ℕ) (visit : ℕ → (S → S) → S → S) (take : ℕ → S → S)
      (take-shift : (k : ℕ) (s : S) → take k (g s) ≡ g (take k s))
      (visit-shift : (j : ℕ) (go : S → S) → ((s : S) → go (g s) ≡ g (go s)) → (s : S) → visit j go (g s) ≡ g (visit j go s)) where
    walk_shift : (l j : ℕ) (s : S) → walk w n visit take l j (g s) ≡ g (walk w n visit take l j s)
    unfolding walk
    walk_shift zero j s = visit-shift j _ (turn_shift take take-shift (count_of w n j) (first_of w n j)) s
    walk_shift (suc l) j s = visit-shift j _ (turn_shift (walk w n visit take l) (walk_shift l) (count_of w n j) (first_of w n j)) s

    -- it is the same before the walk or after it
    pub all_shift : (m : ℕ) (s : S) → walk_all w n m visit take (g s) ≡ g (walk_all w n m visit take s)
    unfolding walk_all
    all_shift m s = go (eqb m 0)
      where
        go : (t : Bool) → cond t (g s) (walk w n visit take (level_of w n (m - 1)) (m - 1) (g s)) ≡ g (cond t s (walk w n visit take (level_of w n (m - 1)) (m - 1) s))
        go true = refl
        go false = walk_shift (level_of w n (m - 1)) (m - 1) s
