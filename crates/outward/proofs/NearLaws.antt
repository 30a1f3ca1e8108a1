-- The walk that goes nearest first, for any state: one step; that it ends, with nothing waiting, within so many steps as there are points and nodes; and that what each step
-- keeps true is true at the end.
-- Assumes nothing.
use mathlib.Core.Path.{◌≡◌, refl, sym, ap, subst, ◌∙◌}
use mathlib.Core.Bool.{Bool, true, false, cond}
use mathlib.Core.List.{List, [], ◌∷◌}
use Prim.Native.Nat.{ℕ, zero, suc, ◌+◌, ◌-◌, ◌<◌, ◌≤◌}
use native.Mathlib.Omega.{arith}
use native.Mathlib.Nat.{pos_of_ne-zero}
use lib.Dec.{eqb}
use lib.IntN.{ℤ}
use lib.ListN.{length}
use borrow.Author.Tests.{eqb-true, eqb-false}
use Rattle.plane.specs.declared.Spot.{Spot}
use Rattle.sheet.specs.Nodes.{first_of, count_of}
use Rattle.sheet.specs.Boxes.{sum_over}
use Rattle.sheet.specs.Open.{Opens}
use Rattle.outward.specs.Waiting.{box_entry, point_entry, node_of, entry_position, covered, with_covered}
use Rattle.outward.specs.NearWalk.{near_steps, root_waits, near_all}
use Rattle.outward.specs.Room.{Each, none, more, Kind, box, point, InRun}
use Rattle.outward.proofs.MassLaws.{at_place}
use Rattle.outward.proofs.ListLaws.{each_head, each_tail, each_map, total, total_length, insert_each, run_keeps, run_total}
use Rattle.outward.proofs.EntryLaws.{is_box_lem, is_point, node_of_lem, position_of, weigh, weigh_point, weigh_covers, weigh_root, covered_kind}

-- ---- weights of what waits

-- the number of points and nodes from there down
abbrev pub weight : List ℤ → ℕ → ℕ → ℕ → ℕ
weight w n m = weigh w n m (λ i. 1) (λ j. 1)

pub sum_zero : (c : ℕ) → sum_over (λ j. 0) 0 c ≡ 0
unfolding sum_over
sum_zero zero = refl
sum_zero (suc c) = omega (arith, sum_zero c)

pub sum_ones : (g : ℕ → ℕ) → ((k : ℕ) → g k ≡ 1) → (c : ℕ) → sum_over g 0 c ≡ c
unfolding sum_over
sum_ones g h zero = refl
sum_ones g h (suc c) = omega (arith, sum_ones g h c, h (0 + c))

module _ (w : List ℤ) (n m : ℕ) (o : Opens w n m) where
  pub weight_some : (e : ℕ) → Kind n m e → 1 ≤ weight w n m e
  weight_some e (box j h z) = rw z (omega (arith, weigh_covers w n m (λ i. 1) (λ i. 1) o j h))
  weight_some e (point i h z) = rw z (omega (arith, weigh_point w n m (λ j. 1) (λ j. 1) i))

  -- no more wait than their weight
  pub length_weight : (l : List ℕ) → Each (Kind n m) l → length l ≤ total (weight w n m) l
  length_weight l a = total_length (weight w n m) l (each_map weight_some a)

  pub none_left : (l : List ℕ) → Each (Kind n m) l → total (weight w n m) l ≤ 0 → l ≡ []
  none_left [] a h = refl
  none_left (e ∷ l) a h = absurd (omega (arith, length_weight (e ∷ l) a))

  module _ (q : Spot) (j : ℕ) (h : j < m) where
    -- what node j covers is put in for the node, and weighs as much, but for the node's own weight
    pub covers_total : (f b : ℕ → ℕ) (l : List ℕ) → b j + total (weigh w n m f b) (with_covered w n m q j l) ≡ total (weigh w n m f b) (box_entry j ∷ l)
    unfolding with_covered total
    covers_total f b l = omega (arith, run_total w n m q (covered w n m j) (weigh w n m f b) (count_of w n j) (first_of w n j) l, weigh_covers w n m f b o j h)

    -- what holds of all that waits and of all that is put in
    pub covers_each : {P : ℕ → Type 0} → ((k : ℕ) → InRun w n j k → P (covered w n m j k)) → (l : List ℕ) → Each P l → Each P (with_covered w n m q j l)
    unfolding with_covered
    covers_each {P} one l a = run_keeps w n m q (covered w n m j) (Each P) (count_of w n j) (first_of w n j) (λ k b u l' x. insert_each w n m q (covered w n m j k) (one k (record { low = b; high = u })) l' x) l a

    pub covers_kind : (l : List ℕ) → Each (Kind n m) l → Each (Kind n m) (with_covered w n m q j l)
    covers_kind = covers_each (λ k r. covered_kind w n m o j k h r)

  -- the root waits at the start, and weighs all there is
  pub root_kinds : Each (Kind n m) (root_waits m)
  unfolding root_waits
  root_kinds = go (eqb m 0) refl
    where
      go : (t : Bool) → eqb m 0 ≡ t → Each (Kind n m) (cond t [] (box_entry (m - 1) ∷ []))
      go true z = none
      go false z = more (box (m - 1) (let y : 0 < m = pos_of_ne-zero (eqb-false m 0 z) in omega arith) refl) none

  pub root_total : (f b : ℕ → ℕ) → total (weigh w n m f b) (root_waits m) ≡ sum_over (at_place w n f) 0 n + sum_over b 0 m
  unfolding root_waits total sum_over
  root_total f b = go (eqb m 0) refl
    where
      go : (t : Bool) → eqb m 0 ≡ t → total (weigh w n m f b) (cond t [] (box_entry (m - 1) ∷ [])) ≡ sum_over (at_place w n f) 0 n + sum_over b 0 m
      go true z = let y = eqb-true m 0 z in rw (o.empty y, y)
      go false z = omega (arith, weigh_root w n m f b o (pos_of_ne-zero (eqb-false m 0 z)))

  pub root_load : total (weight w n m) (root_waits m) ≡ n + m
  unfolding at_place
  root_load = root_total (λ i. 1) (λ j. 1) ∙ omega (arith, sum_ones (at_place w n (λ i. 1)) (λ k. refl) n, sum_ones (λ j. 1) (λ k. refl) m)

-- ---- the steps

module _ {S : Type 0} (w : List ℤ) (n m : ℕ) (q : Spot) (skip : ℕ → S → Bool) (opened : S → S) (meet : ℕ → S → S) where
  abbrev steps : ℕ → List ℕ → S → S
  steps = near_steps w n m q skip opened meet

  -- with nothing waiting, nothing is done
  pub steps_none : (k : ℕ) (s : S) → steps k [] s ≡ s
  unfolding near_steps
  steps_none zero s = refl
  steps_none (suc k) s = refl

  pub step_box : (k j : ℕ) (l : List ℕ) (s : S) → j < m → steps (suc k) (box_entry j ∷ l) s ≡ cond (skip j s) (steps k l s) (steps k (with_covered w n m q j l) (opened s))
  unfolding near_steps
  step_box k j l s h =
      ap
      (λ (t : Bool). cond t (cond (skip (node_of (box_entry j)) s) (steps k l s) (steps k (with_covered w n m q (node_of (box_entry j)) l) (opened s))) (steps k l (meet (entry_position m (box_entry j)) s)))
      (is_box_lem m j h)
      ∙ ap (λ (i : ℕ). cond (skip i s) (steps k l s) (steps k (with_covered w n m q i l) (opened s))) (node_of_lem j)

  pub step_point : (k i : ℕ) (l : List ℕ) (s : S) → steps (suc k) (point_entry m i ∷ l) s ≡ steps k l (meet i s)
  unfolding near_steps
  step_point k i l s =
      ap
      (λ (t : Bool). cond t (cond (skip (node_of (point_entry m i)) s) (steps k l s) (steps k (with_covered w n m q (node_of (point_entry m i)) l) (opened s))) (steps k l (meet (entry_position m (point_entry m i)) s)))
      (is_point m i)
      ∙ ap (λ (p : ℕ). steps k l (meet p s)) (position_of m i)

  module _ (o : Opens w n m) where
    abbrev load : List ℕ → ℕ
    load = total (weight w n m)

    abbrev Kinds : List ℕ → Type 0
    Kinds = Each (Kind n m)

    load_box : (j : ℕ) → j < m → (l : List ℕ) → suc (load (with_covered w n m q j l)) ≡ load (box_entry j ∷ l)
    load_box j h l = let x = covers_total w n m o q j h (λ i. 1) (λ i. 1) l in omega arith

    load_less : (e : ℕ) (l : List ℕ) → Kind n m e → load l < load (e ∷ l)
    unfolding total
    load_less e l a = omega (arith, weight_some w n m o e a)

    -- as many steps as what waits weighs are enough, and more change nothing
    enough_more : (k k' e : ℕ) (l : List ℕ) (s : S) → ((l₁ : List ℕ) (s₁ : S) → Kinds l₁ → load l₁ ≤ k → load l₁ ≤ k' → steps k l₁ s₁ ≡ steps k' l₁ s₁)
        → Kind n m e → Kinds l → load (e ∷ l) ≤ suc k → load (e ∷ l) ≤ suc k' → steps (suc k) (e ∷ l) s ≡ steps (suc k') (e ∷ l) s
    enough_more k k' e l s again (box j b z) a h h' =
        let y : load (e ∷ l) ≡ load (box_entry j ∷ l) = ap (λ (x : ℕ). load (x ∷ l)) z in
        let c = load_box j b l in
        let less = load_less (box_entry j) l (box j b refl) in
        ap (λ (x : ℕ). steps (suc k) (x ∷ l) s) z ∙ step_box k j l s b
        ∙ same (skip j s) (again l s a (omega arith) (omega arith)) (again (with_covered w n m q j l) (opened s) (covers_kind w n m o q j b l a) (omega arith) (omega arith))
        ∙ sym (step_box k' j l s b) ∙ ap (λ (x : ℕ). steps (suc k') (x ∷ l) s) (sym z)
      where
        same : (t : Bool) {x x' y y' : S} → x ≡ x' → y ≡ y' → cond t x y ≡ cond t x' y'
        same true p r = p
        same false p r = r
    enough_more k k' e l s again (point i b z) a h h' =
        let less = load_less e l (point i b z) in
        ap (λ (x : ℕ). steps (suc k) (x ∷ l) s) z ∙ step_point k i l s ∙ again l (meet i s) a (omega arith) (omega arith) ∙ sym (step_point k' i l s)
        ∙ ap (λ (x : ℕ). steps (suc k') (x ∷ l) s) (sym z)

    pub steps_enough : (k k' : ℕ) (l : List ℕ) (s : S) → Kinds l → load l ≤ k → load l ≤ k' → steps k l s ≡ steps k' l s
    steps_enough zero k' l s a h h' = rw (none_left w n m o l a h) (steps_none zero s ∙ sym (steps_none k' s))
    steps_enough (suc k) zero l s a h h' = rw (none_left w n m o l a h') (steps_none (suc k) s ∙ sym (steps_none zero s))
    steps_enough (suc k) (suc k') [] s a h h' = steps_none (suc k) s ∙ sym (steps_none (suc k') s)
    steps_enough (suc k) (suc k') (e ∷ l) s a h h' = enough_more k k' e l s (steps_enough k k') (each_head a) (each_tail a) h h'

    -- `Inv l s`: with l waiting, s is a right state. What each step keeps so, all steps do, and at the end nothing waits.
    module _ (Inv : List ℕ → S → Type 0)
        (skip-keeps : (j : ℕ) → j < m → (l : List ℕ) (s : S) → Kinds l → skip j s ≡ true → Inv (box_entry j ∷ l) s → Inv l s)
        (open-keeps : (j : ℕ) → j < m → (l : List ℕ) (s : S) → Kinds l → skip j s ≡ false → Inv (box_entry j ∷ l) s → Inv (with_covered w n m q j l) (opened s))
        (meet-keeps : (i : ℕ) → i < n → (l : List ℕ) (s : S) → Kinds l → Inv (point_entry m i ∷ l) s → Inv l (meet i s)) where
      step_keeps : (k e : ℕ) (l : List ℕ) (s : S) → ((l₁ : List ℕ) (s₁ : S) → Kinds l₁ → load l₁ ≤ k → Inv l₁ s₁ → Inv [] (steps k l₁ s₁))
          → Kind n m e → Kinds l → load (e ∷ l) ≤ suc k → Inv (e ∷ l) s → Inv [] (steps (suc k) (e ∷ l) s)
      step_keeps k e l s again (box j b z) a h x =
          let y : load (e ∷ l) ≡ load (box_entry j ∷ l) = ap (λ (x : ℕ). load (x ∷ l)) z in
          let c = load_box j b l in
          let less = load_less (box_entry j) l (box j b refl) in
          let start : Inv (box_entry j ∷ l) s = subst (λ (y : ℕ). Inv (y ∷ l) s) z x in
          subst (Inv []) (sym (ap (λ (y : ℕ). steps (suc k) (y ∷ l) s) z ∙ step_box k j l s b))
          (by (skip j s)
          (λ t. again l s a (omega arith) (skip-keeps j b l s a t start))
          (λ t. again (with_covered w n m q j l) (opened s) (covers_kind w n m o q j b l a) (omega arith) (open-keeps j b l s a t start)))
        where
          by : (t : Bool) {x y : S} → (t ≡ true → Inv [] x) → (t ≡ false → Inv [] y) → Inv [] (cond t x y)
          by true p r = p refl
          by false p r = r refl
      step_keeps k e l s again (point i b z) a h x =
          let less = load_less e l (point i b z) in
          subst (Inv []) (sym (ap (λ (y : ℕ). steps (suc k) (y ∷ l) s) z ∙ step_point k i l s))
          (again l (meet i s) a (omega arith) (meet-keeps i b l s a (subst (λ (y : ℕ). Inv (y ∷ l) s) z x)))

      pub steps_keep : (k : ℕ) (l : List ℕ) (s : S) → Kinds l → load l ≤ k → Inv l s → Inv [] (steps k l s)
      unfolding near_steps
      steps_keep zero l s a h x = subst (λ (y : List ℕ). Inv y s) (none_left w n m o l a h) x
      steps_keep (suc k) [] s a h x = x
      steps_keep (suc k) (e ∷ l) s a h x = step_keeps k e l s (steps_keep k) (each_head a) (each_tail a) h x

      -- from the root, so many steps as there are points and nodes are enough
      pub all_keep : (s : S) → Inv (root_waits m) s → Inv [] (near_all w n m q skip opened meet s)
      unfolding near_all
      all_keep s x = steps_keep (n + m) (root_waits m) s (root_kinds w n m o) (omega (arith, root_load w n m o)) x
