-- What waits, as a heap: the order in which numbers are put in does not matter, so that two may change places; the one at place 0 comes first; and what is left
-- of the heap while one number is on its way up or down.
-- The numbers are those of a function v of the place. Assumes nothing.
use mathlib.Core.Path.{◌≡◌, refl, sym, ap, subst, ◌∙◌}
use mathlib.Core.Bool.{Bool, true, false, cond}
use mathlib.Core.Logic.{⊎_elim}
use mathlib.Core.List.{List, [], ◌∷◌}
use Prim.Native.Nat.{ℕ, zero, suc, ◌+◌, ◌<◌, ◌≤◌}
use native.Mathlib.Omega.{arith}
use lib.Dec.{eqb}
use lib.IntN.{ℤ}
use borrow.Author.Tests.{eq-eqb, eqb-true, eqb-false}
use Rattle.integers.proofs.Bools.{decide, clash}
use Rattle.plane.specs.declared.Spot.{Spot}
use Rattle.outward.specs.Waiting.{before, insert}
use Rattle.outward.specs.Room.{Each, none}
use Rattle.outward.proofs.ListLaws.{Leads, led_trans, each_head, each_tail, before_leads, unless_before, leads_before, leads_same, leads_self, insert_each}

-- i is k, or not
pub same_or : {A : Type 0} (i k : ℕ) → (i ≡ k → A) → ((i ≡ k → ⊥) → A) → A
same_or i k f g = ⊎_elim (λ (t : eqb i k ≡ true). f (eqb-true i k t)) (λ (t : eqb i k ≡ false). g (eqb-false i k t)) (decide (eqb i k))

ne_eqb : (i k : ℕ) → (i ≡ k → ⊥) → eqb i k ≡ false
ne_eqb i k h = ⊎_elim (λ (t : eqb i k ≡ true). absurd (h (eqb-true i k t))) (λ (t : eqb i k ≡ false). t) (decide (eqb i k))

-- all places, and those of p but i
abbrev pub every : ℕ → Bool
every k = true

abbrev but : (ℕ → Bool) → ℕ → ℕ → Bool
but p i k = cond (eqb k i) false (p k)

but_here : (p : ℕ → Bool) (i : ℕ) → but p i i ≡ false
but_here p i = rw (eq-eqb i i refl)

but_else : (p : ℕ → Bool) (i k : ℕ) → (k ≡ i → ⊥) → but p i k ≡ p k
but_else p i k h = rw (ne_eqb k i h)

-- what stands at i and at j has changed places
pub record Swapped (v v' : ℕ → ℕ) (i j : ℕ) : Type 0 where
  pub at_i : v' i ≡ v j
  pub at_j : v' j ≡ v i
  pub else : (k : ℕ) → (k ≡ i → ⊥) → (k ≡ j → ⊥) → v' k ≡ v k

-- above each place but 0 there is one
pub place_above : (k : ℕ) → 0 < k → (i : ℕ) × (i + i + 1 ≤ k) × (k ≤ i + i + 2)
place_above zero h = absurd (omega arith)
place_above (suc zero) h = (0, omega arith, omega arith)
place_above (suc (suc zero)) h = (0, omega arith, omega arith)
place_above (suc (suc (suc k))) h = let x = place_above (suc k) (omega arith) in (x.0 + 1, omega (arith, x.1), omega (arith, x.2))

module _ (w : List ℤ) (n m : ℕ) (q : Spot) where
  abbrev put_in : ℕ → List ℕ → List ℕ
  put_in = insert w n m q

  abbrev leads : ℕ → ℕ → Type 0
  leads = Leads w n m q

  -- ---- the order in which two are put in does not matter

  insert_yes : (e f : ℕ) (l : List ℕ) → before w n m q e f ≡ true → put_in e (f ∷ l) ≡ e ∷ f ∷ l
  unfolding insert
  insert_yes e f l h = rw h

  insert_no : (e f : ℕ) (l : List ℕ) → before w n m q e f ≡ false → put_in e (f ∷ l) ≡ f ∷ put_in e l
  unfolding insert
  insert_no e f l h = rw h

  -- a comes before b
  turned : (a b : ℕ) → before w n m q a b ≡ true → before w n m q b a ≡ false → (l : List ℕ) → put_in a (put_in b l) ≡ put_in b (put_in a l)
  unfolding insert
  turned a b h z [] = rw (h, z)
  turned a b h z (f ∷ l) =
      ⊎_elim
      (λ (s : before w n m q b f ≡ true). ⊎_elim
      (λ (t : before w n m q a f ≡ true). ap (put_in a) (insert_yes b f l s) ∙ insert_yes a b (f ∷ l) h ∙ ap (λ (x : List ℕ). a ∷ x) (sym (insert_yes b f l s)) ∙ sym (insert_no b a (f ∷ l) z) ∙ ap (put_in b) (sym (insert_yes a f l t)))
      (λ (t : before w n m q a f ≡ false).
      let x = led_trans f a b (unless_before w n m q a f t) (before_leads w n m q a b h) in
      let y : before w n m q b f ≡ false = leads_before w n m q f b x in
      clash s y)
      (decide (before w n m q a f)))
      (λ (s : before w n m q b f ≡ false). ⊎_elim
      (λ (t : before w n m q a f ≡ true). ap (put_in a) (insert_no b f l s) ∙ insert_yes a f (put_in b l) t ∙ ap (λ (x : List ℕ). a ∷ x) (sym (insert_no b f l s)) ∙ sym (insert_no b a (f ∷ l) z) ∙ ap (put_in b) (sym (insert_yes a f l t)))
      (λ (t : before w n m q a f ≡ false).
      ap (put_in a) (insert_no b f l s) ∙ insert_no a f (put_in b l) t ∙ ap (λ (x : List ℕ). f ∷ x) (turned a b h z l) ∙ sym (insert_no b f (put_in a l) s) ∙ ap (put_in b) (sym (insert_no a f l t)))
      (decide (before w n m q a f)))
      (decide (before w n m q b f))

  pub insert_turned : (a b : ℕ) (l : List ℕ) → put_in a (put_in b l) ≡ put_in b (put_in a l)
  insert_turned a b l =
      ⊎_elim
      (λ (s : before w n m q a b ≡ true). turned a b s (leads_before w n m q a b (before_leads w n m q a b s)) l)
      (λ (s : before w n m q a b ≡ false). ⊎_elim
      (λ (t : before w n m q b a ≡ true). sym (turned b a t s l))
      (λ (t : before w n m q b a ≡ false).
      let z : a ≡ b = leads_same w n m q a b (unless_before w n m q b a t) (unless_before w n m q a b s) in
      rw z)
      (decide (before w n m q b a)))
      (decide (before w n m q a b))

  -- what comes after none is put in at the front
  insert_least : (e : ℕ) (l : List ℕ) → Each (leads e) l → put_in e l ≡ e ∷ l
  unfolding insert
  insert_least e [] a = refl
  insert_least e (f ∷ l) a =
      ⊎_elim
      (λ (s : before w n m q e f ≡ true). insert_yes e f l s)
      (λ (s : before w n m q e f ≡ false).
      let z : e ≡ f = leads_same w n m q e f (each_head a) (unless_before w n m q e f s) in
      insert_no e f l s ∙ ap (λ (x : List ℕ). f ∷ x) (insert_least e l (each_tail a)) ∙ ap (λ (x : ℕ). x ∷ e ∷ l) (sym z) ∙ ap (λ (x : ℕ). e ∷ x ∷ l) z)
      (decide (before w n m q e f))

  -- ---- the numbers at some places, put in

  unfoldable pub picked : (ℕ → Bool) → (ℕ → ℕ) → ℕ → List ℕ
  picked p v zero = []
  picked p v (suc c) = cond (p c) (put_in (v c) (picked p v c)) (picked p v c)

  pub picked_same : (p p' : ℕ → Bool) (v v' : ℕ → ℕ) (c : ℕ) → ((k : ℕ) → k < c → p k ≡ p' k) → ((k : ℕ) → k < c → p k ≡ true → v k ≡ v' k) → picked p v c ≡ picked p' v' c
  unfolding picked
  picked_same p p' v v' zero h g = refl
  picked_same p p' v v' (suc c) h g =
      let r = picked_same p p' v v' c (λ k u. h k (omega arith)) (λ k u. g k (omega arith)) in
      ap (λ (l : List ℕ). cond (p c) (put_in (v c) l) l) r ∙ go (p c) refl ∙ ap (λ (b : Bool). cond b (put_in (v' c) (picked p' v' c)) (picked p' v' c)) (h c (omega arith))
    where
      go : (b : Bool) → p c ≡ b → cond b (put_in (v c) (picked p' v' c)) (picked p' v' c) ≡ cond b (put_in (v' c) (picked p' v' c)) (picked p' v' c)
      go true e = ap (λ (x : ℕ). put_in x (picked p' v' c)) (g c (omega arith) e)
      go false e = refl

  -- one of them put in last
  picked_out : (p : ℕ → Bool) (v : ℕ → ℕ) (c i : ℕ) → i < c → p i ≡ true → picked p v c ≡ put_in (v i) (picked (but p i) v c)
  unfolding picked
  picked_out p v zero i h e = absurd (omega arith)
  picked_out p v (suc c) i h e =
      same_or c i
      (λ z.
      let a : p c ≡ true = ap p z ∙ e in
      let b : but p i c ≡ false = ap (but p i) z ∙ but_here p i in
      let s : picked p v c ≡ picked (but p i) v c = picked_same p (but p i) v v c (λ k u. sym (but_else p i k (λ y. omega arith))) (λ k u t. refl) in
      ap (λ (t : Bool). cond t (put_in (v c) (picked p v c)) (picked p v c)) a ∙ ap (λ (x : ℕ). put_in (v x) (picked p v c)) z ∙ ap (put_in (v i)) (s ∙ ap (λ (t : Bool). cond t (put_in (v c) (picked (but p i) v c)) (picked (but p i) v c)) (sym b)))
      (λ z.
      let b : but p i c ≡ p c = but_else p i c z in
      let r = picked_out p v c i (omega arith) e in
      let x = picked (but p i) v c in
      ap (λ (l : List ℕ). cond (p c) (put_in (v c) l) l) r ∙ go (p c) ∙ ap (λ (t : Bool). put_in (v i) (cond t (put_in (v c) x) x)) (sym b))
    where
      go : (t : Bool) → cond t (put_in (v c) (put_in (v i) (picked (but p i) v c))) (put_in (v i) (picked (but p i) v c)) ≡ put_in (v i) (cond t (put_in (v c) (picked (but p i) v c)) (picked (but p i) v c))
      go true = insert_turned (v c) (v i) (picked (but p i) v c)
      go false = refl

  -- two may change places
  pub picked_swap : (v v' : ℕ → ℕ) (c i j : ℕ) → i < c → j < c → (i ≡ j → ⊥) → Swapped v v' i j → picked every v' c ≡ picked every v c
  picked_swap v v' c i j h g d s =
      let p = but (but every i) j in
      let e : but every i j ≡ true = but_else every i j (λ z. d (sym z)) in
      let two : (u : ℕ → ℕ) → picked every u c ≡ put_in (u i) (put_in (u j) (picked p u c)) = λ u. picked_out every u c i h refl ∙ ap (put_in (u i)) (picked_out (but every i) u c j g e) in
      let x : picked p v' c ≡ picked p v c = picked_same p p v' v c (λ k u. refl) (λ k u t. same_or k j (λ z. (clash t (ap p z ∙ but_here (but every i) j))) (λ z. same_or k i (λ y. (clash t (but_else (but every i) j k z ∙ ap (but every i) y ∙ but_here every i))) (λ y. s.else k y z))) in
      two v' ∙ ap (λ (a : ℕ). put_in a (put_in (v' j) (picked p v' c))) s.at_i ∙ ap (λ (a : ℕ). put_in (v j) (put_in a (picked p v' c))) s.at_j ∙ insert_turned (v j) (v i) (picked p v' c) ∙ ap (λ (l : List ℕ). put_in (v i) (put_in (v j) l)) x ∙ sym (two v)

  picked_each : {P : ℕ → Type 0} (p : ℕ → Bool) (v : ℕ → ℕ) (c : ℕ) → ((k : ℕ) → k < c → P (v k)) → Each P (picked p v c)
  unfolding picked
  picked_each p v zero h = none
  picked_each {P} p v (suc c) h = go (p c) (picked_each p v c (λ k u. h k (omega arith)))
    where
      go : (t : Bool) → Each P (picked p v c) → Each P (cond t (put_in (v c) (picked p v c)) (picked p v c))
      go true a = insert_each w n m q (v c) (h c (omega arith)) (picked p v c) a
      go false a = a

  -- the first goes, and the last stands for it
  pub picked_first : (v v' : ℕ → ℕ) (c : ℕ) → ((k : ℕ) → k < suc c → leads (v 0) (v k)) → v' 0 ≡ v c → ((k : ℕ) → (k ≡ 0 → ⊥) → v' k ≡ v k) → picked every v (suc c) ≡ v 0 ∷ picked every v' c
  unfolding picked
  picked_first v v' c h e s =
      picked_out every v (suc c) 0 (omega arith) refl
      ∙ insert_least (v 0) (picked (but every 0) v (suc c)) (picked_each (but every 0) v (suc c) h)
      ∙ ap (λ (l : List ℕ). v 0 ∷ l)
      (same_or c 0
      (λ z. subst (λ (k : ℕ). picked (but every 0) v (suc k) ≡ picked every v' k) (sym z) refl)
      (λ z.
      let b : but every 0 c ≡ true = but_else every 0 c z in
      let x : picked (but every 0) v c ≡ picked (but every 0) v' c = picked_same (but every 0) (but every 0) v v' c (λ k u. refl) (λ k u t. sym (s k (λ y. clash t (ap (but every 0) y)))) in
      ap (λ (t : Bool). cond t (put_in (v c) (picked (but every 0) v c)) (picked (but every 0) v c)) b ∙ ap (put_in (v c)) x ∙ ap (λ (a : ℕ). put_in a (picked (but every 0) v' c)) (sym e) ∙ sym (picked_out every v' c 0 (omega arith) refl)))

  -- ---- the heap

  -- what stands at a place is not after what stands below it
  unfoldable pub Heap : (ℕ → ℕ) → ℕ → Type 0
  Heap v c = (i k : ℕ) → i + i + 1 ≤ k → k ≤ i + i + 2 → k < c → leads (v i) (v k)

  pub heap_first : (v : ℕ → ℕ) (c : ℕ) → Heap v c → (k : ℕ) → k < c → leads (v 0) (v k)
  unfolding Heap
  heap_first v c h k u = go (suc k) k (omega arith) u
    where
      go : (f k : ℕ) → k < f → k < c → leads (v 0) (v k)
      go zero k x u = absurd (omega arith)
      go (suc f) k x u =
          same_or k 0
          (λ z. subst (λ (a : ℕ). leads (v 0) (v a)) (sym z) (leads_self w n m q (v 0)))
          (λ z.
          let y = place_above k (omega arith) in
          led_trans (v 0) (v y.0) (v k) (go f y.0 (omega (arith, y.1)) (omega (arith, y.1))) (h y.0 k y.1 y.2 u))

  -- all is a heap but for what stands at k and above it; and what is above k is not after what is below it
  pub record Rising (v : ℕ → ℕ) (c k : ℕ) : Type 0 where
    pub rest : (i j : ℕ) → i + i + 1 ≤ j → j ≤ i + i + 2 → j < c → (j ≡ k → ⊥) → leads (v i) (v j)
    pub over : (i j : ℕ) → i + i + 1 ≤ k → k ≤ i + i + 2 → k + k + 1 ≤ j → j ≤ k + k + 2 → j < c → leads (v i) (v j)

  pub rising_step : (v v' : ℕ → ℕ) (c k p : ℕ) → k < c → p + p + 1 ≤ k → k ≤ p + p + 2 → leads (v k) (v p) → Swapped v v' k p → Rising v c k → Rising v' c p
  rising_step v v' c k p f a b g s x =
      record {
        rest = λ i j d e u y.
            same_or j k
            (λ z.
            let ip : i ≡ p = omega arith in
            subst (λ (r : ℕ). leads (v' r) (v' j)) (sym ip) (subst (λ (r : ℕ). leads (v' p) (v' r)) (sym z) (moved s.at_j s.at_i g)))
            (λ z.
            let at_j : v' j ≡ v j = s.else j z y in
            same_or i k
            (λ r. subst (λ (t : ℕ). leads (v' t) (v' j)) (sym r) (moved s.at_i at_j (x.over p j a b (omega arith) (omega arith) u)))
            (λ r.
            same_or i p
            (λ t. subst (λ (o : ℕ). leads (v' o) (v' j)) (sym t) (moved s.at_j at_j (led_trans (v k) (v p) (v j) g (x.rest p j (omega arith) (omega arith) u z))))
            (λ t. moved (s.else i r t) at_j (x.rest i j d e u z))));
        over = λ i j d e y r u.
            let ik : i ≡ k → ⊥ = λ z. omega arith in
            let ip : i ≡ p → ⊥ = λ z. omega arith in
            let pk : p ≡ k → ⊥ = λ z. omega arith in
            let up = x.rest i p d e (omega arith) pk in
            same_or j k
            (λ z. subst (λ (t : ℕ). leads (v' i) (v' t)) (sym z) (moved (s.else i ik ip) s.at_i up))
            (λ z. moved (s.else i ik ip) (s.else j z (λ t. omega arith)) (led_trans (v i) (v p) (v j) up (x.rest p j y r u z)));
      }
    where
      moved : {a b a' b' : ℕ} → a' ≡ a → b' ≡ b → leads a b → leads a' b'
      moved {a} {b} {a'} {b'} y z l = subst (λ (t : ℕ). leads t b') (sym y) (subst (λ (t : ℕ). leads a t) (sym z) l)

  pub rising_stop : (v : ℕ → ℕ) (c k p : ℕ) → p + p + 1 ≤ k → k ≤ p + p + 2 → leads (v p) (v k) → Rising v c k → Heap v c
  unfolding Heap
  rising_stop v c k p a b g x i j d e u =
      same_or j k
      (λ z. let ip : i ≡ p = omega arith in subst (λ (r : ℕ). leads (v r) (v j)) (sym ip) (subst (λ (r : ℕ). leads (v p) (v r)) (sym z) g))
      (λ z. x.rest i j d e u z)

  pub rising_end : (v : ℕ → ℕ) (c k : ℕ) → k ≡ 0 → Rising v c k → Heap v c
  unfolding Heap
  rising_end v c k o x i j d e u = x.rest i j d e u (λ z. omega arith)

  -- all is a heap but for what stands at k and below it
  pub record Sinking (v : ℕ → ℕ) (c k : ℕ) : Type 0 where
    pub rest : (i j : ℕ) → i + i + 1 ≤ j → j ≤ i + i + 2 → j < c → (i ≡ k → ⊥) → leads (v i) (v j)
    pub over : (i j : ℕ) → i + i + 1 ≤ k → k ≤ i + i + 2 → k + k + 1 ≤ j → j ≤ k + k + 2 → j < c → leads (v i) (v j)

  -- r is the lesser of those below k
  unfoldable pub Least : (ℕ → ℕ) → ℕ → ℕ → ℕ → Type 0
  Least v c k r = (j : ℕ) → k + k + 1 ≤ j → j ≤ k + k + 2 → j < c → leads (v r) (v j)

  pub sinking_step : (v v' : ℕ → ℕ) (c k r : ℕ) → r < c → k + k + 1 ≤ r → r ≤ k + k + 2 → leads (v r) (v k) → Least v c k r → Swapped v v' k r → Sinking v c k → Sinking v' c r
  unfolding Least
  sinking_step v v' c k r f a b g least s x =
      record {
        rest = λ i j d e u y.
            same_or i k
            (λ z.
            subst (λ (t : ℕ). leads (v' t) (v' j)) (sym z)
            (same_or j r
            (λ t. subst (λ (o : ℕ). leads (v' k) (v' o)) (sym t) (moved s.at_i s.at_j g))
            (λ t. moved s.at_i (s.else j (λ o. omega arith) t) (least j (omega arith) (omega arith) u))))
            (λ z.
            same_or j k
            (λ t. subst (λ (o : ℕ). leads (v' i) (v' o)) (sym t) (moved (s.else i z y) s.at_i (x.over i r (omega arith) (omega arith) a b f)))
            (λ t. moved (s.else i z y) (s.else j t (λ o. z (omega arith))) (x.rest i j d e u z)));
        over = λ i j d e y o u.
            let z : i ≡ k = omega arith in
            subst (λ (t : ℕ). leads (v' t) (v' j)) (sym z) (moved s.at_i (s.else j (λ t. omega arith) (λ t. omega arith)) (x.rest r j y o u (λ t. omega arith)));
      }
    where
      moved : {a b a' b' : ℕ} → a' ≡ a → b' ≡ b → leads a b → leads a' b'
      moved {a} {b} {a'} {b'} y z l = subst (λ (t : ℕ). leads t b') (sym y) (subst (λ (t : ℕ). leads a t) (sym z) l)

  pub sinking_stop : (v : ℕ → ℕ) (c k r : ℕ) → leads (v k) (v r) → Least v c k r → Sinking v c k → Heap v c
  unfolding Heap Least
  sinking_stop v c k r g least x i j d e u =
      same_or i k
      (λ z. subst (λ (t : ℕ). leads (v t) (v j)) (sym z) (led_trans (v k) (v r) (v j) g (least j (omega arith) (omega arith) u)))
      (λ z. x.rest i j d e u z)

  pub sinking_end : (v : ℕ → ℕ) (c k : ℕ) → c ≤ k + k + 1 → Sinking v c k → Heap v c
  unfolding Heap
  sinking_end v c k o x i j d e u = x.rest i j d e u (λ z. omega arith)
