-- What waits: a box or a point; what it weighs; what a node covers, and which positions stand below.
-- Assumes nothing.
use mathlib.Core.Path.{◌≡◌, refl, sym, ap, subst, ◌∙◌}
use mathlib.Core.Bool.{Bool, true, false, cond}
use mathlib.Core.List.{List}
use Prim.Native.Nat.{ℕ, zero, suc, ◌+◌, ◌-◌, ◌<◌}
use native.Mathlib.Omega.{arith}
use lib.Dec.{eqb}
use lib.IntN.{ℤ}
use borrow.Author.Tests.{lt-ltb, le-ltb, eq-eqb, eqb-true}
use Rattle.sheet.specs.Order.{order_of, rank_of}
use Rattle.sheet.specs.Nodes.{level_of, first_of, count_of}
use Rattle.sheet.specs.Boxes.{Below, sum_over}
use Rattle.sheet.specs.Open.{Opens}
use Rattle.sheet.proofs.TreeLaws.{child, leaf}
use Rattle.sheet.proofs.CoverLaws.{root_below}
use Rattle.sheet.proofs.OrderLaws.{order_below, rank_below, order_rank}
use Rattle.outward.specs.Waiting.{box_entry, point_entry, is_box, node_of, entry_position, covered}
use Rattle.outward.specs.Room.{Kind, box, point, InRun}
use Rattle.outward.proofs.MassLaws.{at_place, mass, root_mass}
use Rattle.outward.proofs.ListLaws.{near_sum_same}

-- ---- numbers

pub is_box_lem : (m j : ℕ) → j < m → is_box m (box_entry j) ≡ true
is_box_lem m j h = lt-ltb (j + 1) (m + 1) (omega arith)

pub is_point : (m i : ℕ) → is_box m (point_entry m i) ≡ false
is_point m i = le-ltb (m + 1 + i) (m + 1) (omega arith)

pub node_of_lem : (j : ℕ) → node_of (box_entry j) ≡ j
node_of_lem j = omega arith

pub position_of : (m i : ℕ) → entry_position m (point_entry m i) ≡ i
position_of m i = omega arith

-- ---- what a node covers

pub covered_place : (w : List ℤ) (n m j k : ℕ) → level_of w n j ≡ 0 → covered w n m j k ≡ point_entry m (order_of w n k)
unfolding covered
covered_place w n m j k e = rw (eq-eqb (level_of w n j) 0 e)

pub covered_node : (w : List ℤ) (n m j k l : ℕ) → level_of w n j ≡ suc l → covered w n m j k ≡ box_entry k
unfolding covered
covered_node w n m j k l e = go (eqb (level_of w n j) 0) refl
  where
    go : (t : Bool) → eqb (level_of w n j) 0 ≡ t → cond t (point_entry m (order_of w n k)) (box_entry k) ≡ box_entry k
    go true z = let y = eqb-true (level_of w n j) 0 z in absurd (omega arith)
    go false z = refl

-- what a node covers is numbered below n or below m
pub run_small : (w : List ℤ) (n m j k : ℕ) → Opens w n m → j < m → InRun w n j k → k < n + m
run_small w n m j k o h r = go (level_of w n j) refl
  where
    go : (l : ℕ) → level_of w n j ≡ l → k < n + m
    go zero e = omega (arith, leaf w n m o.table j h e k r.high)
    go (suc l) e = let x = child w n m o.table j l h e k r.low r.high in omega (arith, x.1)

-- what a leaf covers at k is a position of the sheet
pub covered_few : (w : List ℤ) (n m j k i : ℕ) → Opens w n m → j < m → level_of w n j ≡ 0 → InRun w n j k → i ≡ order_of w n k → i < n
covered_few w n m j k i o h e r z = omega (arith, order_below w n o.ordered k (leaf w n m o.table j h e k r.high))

-- what a higher node covers at k is node k, which stands before it
pub covered_above : (w : List ℤ) (n m j k : ℕ) → Opens w n m → j < m → (level_of w n j ≡ 0 → ⊥) → InRun w n j k → (k < m) × (covered w n m j k ≡ box_entry k)
covered_above w n m j k o h z r = go (level_of w n j) refl
  where
    go : (l : ℕ) → level_of w n j ≡ l → (k < m) × (covered w n m j k ≡ box_entry k)
    go zero e = absurd (z e)
    go (suc l) e = (let x = child w n m o.table j l h e k r.low r.high in omega (arith, x.1), covered_node w n m j k l e)

-- ---- weights

unfoldable pub weigh : List ℤ → ℕ → ℕ → (ℕ → ℕ) → (ℕ → ℕ) → ℕ → ℕ
weigh w n m f b e = cond (is_box m e) (mass w n f b (level_of w n (node_of e)) (node_of e)) (f (entry_position m e))

module _ (w : List ℤ) (n m : ℕ) (f b : ℕ → ℕ) where
  pub weigh_box : (j : ℕ) → j < m → weigh w n m f b (box_entry j) ≡ mass w n f b (level_of w n j) j
  unfolding weigh
  weigh_box j h =
      ap (λ (t : Bool). cond t (mass w n f b (level_of w n (node_of (box_entry j))) (node_of (box_entry j))) (f (entry_position m (box_entry j)))) (is_box_lem m j h)
      ∙ ap (λ (i : ℕ). mass w n f b (level_of w n i) i) (node_of_lem j)

  pub weigh_point : (i : ℕ) → weigh w n m f b (point_entry m i) ≡ f i
  unfolding weigh
  weigh_point i =
      ap (λ (t : Bool). cond t (mass w n f b (level_of w n (node_of (point_entry m i))) (node_of (point_entry m i))) (f (entry_position m (point_entry m i)))) (is_point m i)
      ∙ ap f (position_of m i)

  module _ (o : Opens w n m) where
    run_weight : (l j : ℕ) → j < m → level_of w n j ≡ l → mass w n f b l j ≡ b j + sum_over (λ k. weigh w n m f b (covered w n m j k)) (first_of w n j) (count_of w n j)
    unfolding mass at_place
    run_weight zero j h e =
        ap (λ (s : ℕ). b j + s)
        (near_sum_same _ _ (first_of w n j) (count_of w n j) (λ k a u. sym (ap (weigh w n m f b) (covered_place w n m j k e) ∙ weigh_point (order_of w n k))))
    run_weight (suc l) j h e =
        ap (λ (s : ℕ). b j + s)
        (near_sum_same _ _ (first_of w n j) (count_of w n j)
        (λ k a u.
        let x = child w n m o.table j l h e k a u in
        sym (ap (weigh w n m f b) (covered_node w n m j k l e) ∙ weigh_box k (omega (arith, x.1)) ∙ ap (λ (i : ℕ). mass w n f b i k) x.0)))

    -- a box weighs what its node weighs, and what that covers
    pub weigh_covers : (j : ℕ) → j < m → weigh w n m f b (box_entry j) ≡ b j + sum_over (λ k. weigh w n m f b (covered w n m j k)) (first_of w n j) (count_of w n j)
    weigh_covers j h = weigh_box j h ∙ run_weight (level_of w n j) j h refl

    -- and that of the root all points and all nodes
    pub weigh_root : 0 < m → weigh w n m f b (box_entry (m - 1)) ≡ sum_over (at_place w n f) 0 n + sum_over b 0 m
    weigh_root h = weigh_box (m - 1) (omega arith) ∙ root_mass w n f b m o.table h

-- ---- positions below

pub data Under (w : List ℤ) (n m e x : ℕ) : Type 0 where
  itself : e ≡ point_entry m x → Under w n m e x
  below : (j : ℕ) → j < m → e ≡ box_entry j → (k : ℕ) → Below w n (level_of w n j) j k → order_of w n k ≡ x → Under w n m e x

module _ (w : List ℤ) (n m : ℕ) (o : Opens w n m) where
  -- what a node covers is a box or a point of the sheet
  pub covered_kind : (j k : ℕ) → j < m → InRun w n j k → Kind n m (covered w n m j k)
  covered_kind j k h r = go (level_of w n j) refl
    where
      go : (l : ℕ) → level_of w n j ≡ l → Kind n m (covered w n m j k)
      go zero e = point (order_of w n k) (order_below w n o.ordered k (leaf w n m o.table j h e k r.high)) (covered_place w n m j k e)
      go (suc l) e = let x = child w n m o.table j l h e k r.low r.high in box k (omega (arith, x.1)) (covered_node w n m j k l e)

  -- below what a node covers stands nothing that is not below the node
  pub under_covered : (j k : ℕ) → j < m → InRun w n j k → (x : ℕ) → Under w n m (covered w n m j k) x → Under w n m (box_entry j) x
  unfolding Below
  under_covered j k h r x u = go (level_of w n j) refl u
    where
      down : (l : ℕ) → level_of w n j ≡ l → (i : ℕ) → Below w n l j i → Below w n (level_of w n j) j i
      down l e i y = subst (λ (z : ℕ). Below w n z j i) (sym e) y

      go : (l : ℕ) → level_of w n j ≡ l → Under w n m (covered w n m j k) x → Under w n m (box_entry j) x
      go zero e (itself z) = below j h refl k (down zero e k (r.low, r.high)) (let y = sym (covered_place w n m j k e) ∙ z in omega arith)
      go zero e (below j' h' z i y p) = let v = sym (covered_place w n m j k e) ∙ z in absurd (omega arith)
      go (suc l) e (itself z) = let v = sym (covered_node w n m j k l e) ∙ z in let c = child w n m o.table j l h e k r.low r.high in absurd (omega (arith, c.1))
      go (suc l) e (below j' h' z i y p) =
          let v : k ≡ j' = (let a = sym (covered_node w n m j k l e) ∙ z in omega arith) in
          let c = child w n m o.table j l h e k r.low r.high in
          below j h refl i (down (suc l) e i (k, r.low, r.high, subst (λ (g : ℕ). Below w n g k i) c.0 (subst (λ (g : ℕ). Below w n (level_of w n g) g i) (sym v) y))) p

  -- what is below a node is below something that it covers
  pub under_node : (j : ℕ) → j < m → (x : ℕ) → Under w n m (box_entry j) x → (k : ℕ) × InRun w n j k × Under w n m (covered w n m j k) x
  unfolding Below
  under_node j h x (itself z) = absurd (omega arith)
  under_node j h x (below j' h' z i y p) = go (level_of w n j) refl (subst (λ (g : ℕ). Below w n (level_of w n g) g i) same y)
    where
      same : j' ≡ j
      same = omega arith

      go : (l : ℕ) → level_of w n j ≡ l → Below w n (level_of w n j) j i → (k : ℕ) × InRun w n j k × Under w n m (covered w n m j k) x
      go zero e v =
          let b : Below w n 0 j i = subst (λ (g : ℕ). Below w n g j i) e v in
          (i, record { low = b.0; high = b.1 }, itself (covered_place w n m j i e ∙ ap (point_entry m) p))
      go (suc l) e v =
          let b : Below w n (suc l) j i = subst (λ (g : ℕ). Below w n g j i) e v in
          let c = child w n m o.table j l h e b.0 b.1 b.2 in
          (b.0, record { low = b.1; high = b.2 }, below b.0 (omega (arith, c.1)) (covered_node w n m j b.0 l e) i (subst (λ (g : ℕ). Below w n g b.0 i) (sym c.0) b.3) p)

  -- all positions are below the root
  pub under_root : 0 < m → (x : ℕ) → x < n → Under w n m (box_entry (m - 1)) x
  under_root h x l = below (m - 1) (omega arith) refl (rank_of w n x) (root_below w n m o.table h (rank_of w n x) (rank_below w n o.ordered x l)) (order_rank w n o.ordered x l)
