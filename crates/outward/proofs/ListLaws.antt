-- Lists of what waits: something said of each, of some, of the order, and a sum over all; and what is put in where it belongs.
-- Assumes nothing.
use mathlib.Core.Path.{◌≡◌, refl, sym, ap, subst}
use mathlib.Core.Bool.{Bool, true, false, cond, ◌&&◌}
use mathlib.Core.Logic.{◌⊎◌, inl, inr, ⊎_elim}
use mathlib.Core.List.{List, [], ◌∷◌}
use Prim.Native.Nat.{ℕ, zero, suc, ◌+◌, ◌<◌, ◌≤◌}
use native.Mathlib.Omega.{arith}
use lib.Dec.{eqb, ltb}
use lib.IntN.{ℤ}
use lib.ListN.{length}
use borrow.Author.Tests.{le-ltb, eq-eqb, eqb-true, eqb-false, ltb-true, ltb-false}
use Rattle.integers.proofs.Bools.{decide, clash, or_false_left, or_false_right, and_left, and_right}
use Rattle.plane.specs.declared.Spot.{Spot}
use Rattle.sheet.specs.Boxes.{sum_over}
use Rattle.walk.specs.Walk.{in_turn}
use Rattle.walk.proofs.WalkLaws.{sum_one}
use Rattle.outward.specs.Waiting.{distance, before, insert}
use Rattle.outward.specs.Room.{Each, none, more}

-- ---- said of each, of some

pub data Some (P : ℕ → Type 0) : List ℕ → Type 0 where
  here : {e : ℕ} {l : List ℕ} → P e → Some P (e ∷ l)
  later : {e : ℕ} {l : List ℕ} → Some P l → Some P (e ∷ l)

pub each_head : {P : ℕ → Type 0} {e : ℕ} {l : List ℕ} → Each P (e ∷ l) → P e
each_head (more p r) = p

pub each_tail : {P : ℕ → Type 0} {e : ℕ} {l : List ℕ} → Each P (e ∷ l) → Each P l
each_tail (more p r) = r

pub each_map : {P Q : ℕ → Type 0} {l : List ℕ} → ((e : ℕ) → P e → Q e) → Each P l → Each Q l
each_map f none = none
each_map f (more p r) = more (f _ p) (each_map f r)

pub some_cases : {P : ℕ → Type 0} {e : ℕ} {l : List ℕ} → Some P (e ∷ l) → P e ⊎ Some P l
some_cases (here p) = inl p
some_cases (later r) = inr r

pub near_some_none : {P : ℕ → Type 0} {l : List ℕ} → Some P l → length l ≡ 0 → ⊥
near_some_none (here p) z = omega arith
near_some_none (later r) z = omega arith

-- the sum of g over all
unfoldable pub total : (ℕ → ℕ) → List ℕ → ℕ
total g [] = 0
total g (e ∷ l) = g e + total g l

-- each is at least 1, so there are no more than the sum
pub total_length : (g : ℕ → ℕ) (l : List ℕ) → Each (λ e. 1 ≤ g e) l → length l ≤ total g l
unfolding total
total_length g [] a = omega arith
total_length g (e ∷ l) a = omega (arith, each_head a, total_length g l (each_tail a))

-- ---- the order

-- e is not after f: by distance, then by number
pub record Led (d : ℕ → ℕ) (e f : ℕ) : Type 0 where
  pub by : (d e < d f) ⊎ ((d e ≡ d f) × (e ≤ f))

pub led_trans : {d : ℕ → ℕ} (e f g : ℕ) → Led d e f → Led d f g → Led d e g
led_trans {d} e f g x y =
    record {
      by =
          ⊎_elim
          (λ (a : d e < d f). ⊎_elim (λ (b : d f < d g). inl (omega arith)) (λ (b : (d f ≡ d g) × (f ≤ g)). inl (omega arith)) y.by)
          (λ (a : (d e ≡ d f) × (e ≤ f)). ⊎_elim (λ (b : d f < d g). inl (omega arith)) (λ (b : (d f ≡ d g) × (f ≤ g)). inr (omega arith, omega arith)) y.by)
          x.by;
    }

pub data Sorted (R : ℕ → ℕ → Type 0) : List ℕ → Type 0 where
  sorted_none : Sorted R []
  sorted_more : {e : ℕ} {l : List ℕ} → Each (R e) l → Sorted R l → Sorted R (e ∷ l)

pub sorted_head : {R : ℕ → ℕ → Type 0} {e : ℕ} {l : List ℕ} → Sorted R (e ∷ l) → Each (R e) l
sorted_head (sorted_more a s) = a

pub sorted_tail : {R : ℕ → ℕ → Type 0} {e : ℕ} {l : List ℕ} → Sorted R (e ∷ l) → Sorted R l
sorted_tail (sorted_more a s) = s

module _ (w : List ℤ) (n m : ℕ) (q : Spot) where
  abbrev pub Leads : ℕ → ℕ → Type 0
  Leads = Led (distance w n m q)

  pub before_leads : (e f : ℕ) → before w n m q e f ≡ true → Leads e f
  unfolding before
  before_leads e f h =
      let s = distance w n m q e in
      let t = distance w n m q f in
      ⊎_elim
      (λ (a : ltb s t ≡ true). record { by = inl (ltb-true s t a) })
      (λ (a : ltb s t ≡ false).
      let x : (eqb s t && ltb e f) ≡ true = rw a at h in
      let y : e < f = ltb-true e f (and_right (eqb s t) (ltb e f) x) in
      record { by = inr (eqb-true s t (and_left (eqb s t) (ltb e f) x), omega arith) })
      (decide (ltb s t))

  pub unless_before : (e f : ℕ) → before w n m q e f ≡ false → Leads f e
  unfolding before
  unless_before e f h =
      let s = distance w n m q e in
      let t = distance w n m q f in
      let a : t ≤ s = ltb-false s t (or_false_left (ltb s t) (eqb s t && ltb e f) h) in
      let x : (eqb s t && ltb e f) ≡ false = or_false_right (ltb s t) (eqb s t && ltb e f) h in
      ⊎_elim
      (λ (b : eqb s t ≡ true).
      let y : ltb e f ≡ false = rw b at x in
      record { by = inr (sym (eqb-true s t b), ltb-false e f y) })
      (λ (b : eqb s t ≡ false).
      let z : s ≡ t → ⊥ = eqb-false s t b in
      record { by = inl (omega arith) })
      (decide (eqb s t))

  -- none comes before itself
  never_before : (e : ℕ) → before w n m q e e ≡ false
  unfolding before
  never_before e = let d = distance w n m q e in rw (le-ltb d d (omega arith), eq-eqb d d refl, le-ltb e e (omega arith))

  pub leads_self : (e : ℕ) → Leads e e
  leads_self e = record { by = inr (refl, omega arith) }

  -- two of which neither is after the other are the same
  pub leads_same : (e f : ℕ) → Leads e f → Leads f e → e ≡ f
  leads_same e f x y =
      let s = distance w n m q e in
      let t = distance w n m q f in
      ⊎_elim
      (λ (a : s < t). ⊎_elim (λ (b : t < s). absurd (omega arith)) (λ (b : (t ≡ s) × (f ≤ e)). absurd (omega arith)) y.by)
      (λ (a : (s ≡ t) × (e ≤ f)). ⊎_elim (λ (b : t < s). absurd (omega arith)) (λ (b : (t ≡ s) × (f ≤ e)). omega arith) y.by)
      x.by

  pub leads_before : (e f : ℕ) → Leads e f → before w n m q f e ≡ false
  leads_before e f x =
      ⊎_elim
      (λ (a : before w n m q f e ≡ true). let z = leads_same e f x (before_leads f e a) in clash (subst (λ (k : ℕ). before w n m q k e ≡ true) (sym z) a) (never_before e))
      (λ (a : before w n m q f e ≡ false). a)
      (decide (before w n m q f e))

  -- ---- what is put in

  module _ (Q : List ℕ → Type 0) (e f : ℕ) (l : List ℕ) (yes : before w n m q e f ≡ true → Q (e ∷ f ∷ l)) (no : before w n m q e f ≡ false → Q (f ∷ insert w n m q e l)) where
    insert_cases : Q (insert w n m q e (f ∷ l))
    unfolding insert
    insert_cases = go (before w n m q e f) refl
      where
        go : (t : Bool) → before w n m q e f ≡ t → Q (cond t (e ∷ f ∷ l) (f ∷ insert w n m q e l))
        go true h = yes h
        go false h = no h

  pub insert_each : {P : ℕ → Type 0} (e : ℕ) → P e → (l : List ℕ) → Each P l → Each P (insert w n m q e l)
  unfolding insert
  insert_each e p [] a = more p none
  insert_each {P} e p (f ∷ l) a = insert_cases (Each P) e f l (λ h. more p a) (λ h. more (each_head a) (insert_each e p l (each_tail a)))

  pub insert_here : {P : ℕ → Type 0} (e : ℕ) → P e → (l : List ℕ) → Some P (insert w n m q e l)
  unfolding insert
  insert_here e p [] = here p
  insert_here {P} e p (f ∷ l) = insert_cases (Some P) e f l (λ h. here p) (λ h. later (insert_here e p l))

  pub insert_some : {P : ℕ → Type 0} (e : ℕ) (l : List ℕ) → Some P l → Some P (insert w n m q e l)
  unfolding insert
  insert_some {P = P} e [] x' = elim x' [ ]
  insert_some {P} e (f ∷ l) (here p) = insert_cases (Some P) e f l (λ h. later (here p)) (λ h. here p)
  insert_some {P} e (f ∷ l) (later r) = insert_cases (Some P) e f l (λ h. later (later r)) (λ h. later (insert_some e l r))

  pub insert_sorted : (e : ℕ) (l : List ℕ) → Sorted Leads l → Sorted Leads (insert w n m q e l)
  unfolding insert
  insert_sorted e [] a = sorted_more none sorted_none
  insert_sorted e (f ∷ l) a =
      insert_cases (Sorted Leads) e f l
      (λ h. let x = before_leads e f h in sorted_more (more x (each_map (λ g y. led_trans e f g x y) (sorted_head a))) a)
      (λ h. sorted_more (insert_each e (unless_before e f h) l (sorted_head a)) (insert_sorted e l (sorted_tail a)))

  pub insert_total : (g : ℕ → ℕ) (e : ℕ) (l : List ℕ) → total g (insert w n m q e l) ≡ g e + total g l
  unfolding insert total
  insert_total g e [] = refl
  insert_total g e (f ∷ l) = insert_cases (λ x. total g x ≡ g e + (g f + total g l)) e f l (λ h. refl) (λ h. omega (arith, insert_total g e l))

  pub insert_length : (e : ℕ) (l : List ℕ) → length (insert w n m q e l) ≡ suc (length l)
  unfolding insert
  insert_length e [] = refl
  insert_length e (f ∷ l) = insert_cases (λ x. length x ≡ suc (suc (length l))) e f l (λ h. refl) (λ h. ap suc (insert_length e l))

  -- ---- a run of entries put in, in turn: those that h gives from a on

  module _ (h : ℕ → ℕ) where
    pub run_keeps : (Q : List ℕ → Type 0) (c a : ℕ) → ((k : ℕ) → a ≤ k → k < a + c → (l : List ℕ) → Q l → Q (insert w n m q (h k) l)) → (l : List ℕ) → Q l → Q (in_turn (λ k. insert w n m q (h k)) c a l)
    unfolding in_turn
    run_keeps Q zero a one l x = x
    run_keeps Q (suc c) a one l x = run_keeps Q c (a + 1) (λ k b u. one k (omega arith) (omega arith)) _ (one a (omega arith) (omega arith) l x)

    -- one of them is in, where it is one of the run
    pub run_here : {P : ℕ → Type 0} (c a k : ℕ) → a ≤ k → k < a + c → P (h k) → (l : List ℕ) → Some P (in_turn (λ i. insert w n m q (h i)) c a l)
    unfolding in_turn
    run_here zero a k b u p l = absurd (omega arith)
    run_here {P} (suc c) a k b u p l =
        ⊎_elim
        (λ (e : eqb a k ≡ true).
        let z = eqb-true a k e in
        run_keeps (Some P) c (a + 1) (λ i _ _ l' s. insert_some (h i) l' s) _ (rw (z) (insert_here (h k) p l)))
        (λ (e : eqb a k ≡ false). let z = eqb-false a k e in run_here c (a + 1) k (omega arith) (omega arith) p _)
        (decide (eqb a k))

    pub run_length : (c a : ℕ) (l : List ℕ) → length (in_turn (λ k. insert w n m q (h k)) c a l) ≡ length l + c
    unfolding in_turn
    run_length zero a l = omega arith
    run_length (suc c) a l = omega (arith, run_length c (a + 1) (insert w n m q (h a) l), insert_length (h a) l)

    pub run_total : (g : ℕ → ℕ) (c a : ℕ) (l : List ℕ) → total g (in_turn (λ k. insert w n m q (h k)) c a l) ≡ sum_over (λ k. g (h k)) a c + total g l
    unfolding in_turn sum_over
    run_total g zero a l = omega arith
    run_total g (suc c) a l = omega (arith, run_total g c (a + 1) (insert w n m q (h a) l), insert_total g (h a) l, sum_one (λ k. g (h k)) a c)

-- ---- sums

pub near_sum_same : (f g : ℕ → ℕ) (a c : ℕ) → ((k : ℕ) → a ≤ k → k < a + c → f k ≡ g k) → sum_over f a c ≡ sum_over g a c
unfolding sum_over
near_sum_same f g a zero h = refl
near_sum_same f g a (suc c) h = omega (arith, near_sum_same f g a c (λ k b u. h k b (omega arith)), h (a + c) (omega arith) (omega arith))
