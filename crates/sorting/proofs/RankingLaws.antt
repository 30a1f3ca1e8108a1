-- The first k of a list in any order.
--     put_swap          of two that the order tells apart, it is the same which is put first
--     take_put          the first k after one is put depend on the first k before alone
--     gathered_first    those of a list gathered from nothing are its first k
--     ranked_keeps, ranked_enters, ranked_stays     what one more does to those held: with fewer than k it is put among them, with k of them only if it stands before the last
--     behind_stays, behind_on, behind_last     one that stands before none of k held: it is not among the k, nor after others were offered
-- Assumes nothing.
use mathlib.Core.Path.{◌≡◌, refl, sym, ap, subst, ◌∙◌}
use mathlib.Core.Bool.{Bool, true, false, cond}
use mathlib.Core.Logic.{◌⊎◌, inl, inr, ⊎_elim}
use mathlib.Core.List.Memᴰ
use mathlib.Core.List.{List, [], ◌∷◌, ◌++◌, Memᴰ}
use Prim.Native.Nat.{ℕ, zero, suc, ◌≤◌, ◌<◌}
use native.Mathlib.Omega.{arith}
use lib.ListN.{length, take, drop, get_or, length-take}
use lib.Seq.{take_all, take-suc, take_at, take-length, take-take}
use Rattle.integers.proofs.Bools.{decide, clash}
use Rattle.sorting.specs.Ranking.{put_by, sorted_by, first_by, Sorted, gathered, Apart, Order}

module _ {A : Type 0} (before : A → A → Bool) where
  pub put_none : (v : A) → put_by before v [] ≡ v ∷ []
  unfolding put_by
  put_none v = refl

  here : (v w : A) (l : List A) → before v w ≡ true → put_by before v (w ∷ l) ≡ v ∷ (w ∷ l)
  unfolding put_by
  here v w l e = rw e

  on : (v w : A) (l : List A) → before v w ≡ false → put_by before v (w ∷ l) ≡ w ∷ put_by before v l
  unfolding put_by
  on v w l e = rw e

  pub ranked_put_long : (v : A) (l : List A) → length (put_by before v l) ≡ suc (length l)
  unfolding put_by
  ranked_put_long v [] = refl
  ranked_put_long v (w ∷ l) = ⊎_elim (λ (e : before v w ≡ true). rw e) (λ (e : before v w ≡ false). rw e (ap suc (ranked_put_long v l))) (decide (before v w))

  cons_take : (k : ℕ) (x : A) (l : List A) → take k (x ∷ l) ≡ take k (x ∷ take k l)
  cons_take zero x l = refl
  cons_take (suc k) x l = ap (λ (t : List A). x ∷ t) (sym (take-take k (suc k) l (omega arith)))

  -- the first k after one is put depend on the first k before alone
  pub take_put : (k : ℕ) (v : A) (l : List A) → take k (put_by before v l) ≡ take k (put_by before v (take k l))
  take_put zero v l = refl
  take_put (suc k) v [] = refl
  take_put (suc k) v (x ∷ l) =
      ⊎_elim
      (λ (e : before v x ≡ true). ap (take (suc k)) (here v x l e) ∙ ap (λ (t : List A). v ∷ t) (cons_take k x l) ∙ sym (ap (take (suc k)) (here v x (take k l) e)))
      (λ (e : before v x ≡ false). ap (take (suc k)) (on v x l e) ∙ ap (λ (t : List A). x ∷ t) (take_put k v l) ∙ sym (ap (take (suc k)) (on v x (take k l) e)))
      (decide (before v x))

  -- one that stands before the one at m comes ahead of it, and that one leaves the first m + 1
  pub take_before : (m : ℕ) (v d : A) (l : List A) → m < length l → before v (get_or l m d) ≡ true → take (suc m) (put_by before v l) ≡ put_by before v (take m l)
  take_before m v d [] h e = absurd (omega arith)
  take_before zero v d (x ∷ l) h e = ap (take 1) (here v x l e) ∙ sym (put_none v)
  take_before (suc m) v d (x ∷ l) h e =
      ⊎_elim
      (λ (f : before v x ≡ true). ap (take (suc (suc m))) (here v x l f) ∙ sym (here v x (take m l) f))
      (λ (f : before v x ≡ false). ap (take (suc (suc m))) (on v x l f) ∙ ap (λ (t : List A). x ∷ t) (take_before m v d l (omega arith) e) ∙ sym (on v x (take m l) f))
      (decide (before v x))

  -- one put ahead of a last that it stands before
  pub put_before : (v w : A) (l : List A) → before v w ≡ true → put_by before v (l ++ (w ∷ [])) ≡ put_by before v l ++ (w ∷ [])
  put_before v w [] e = here v w [] e ∙ sym (ap (λ (t : List A). t ++ (w ∷ [])) (put_none v))
  put_before v w (x ∷ l) e =
      ⊎_elim
      (λ (f : before v x ≡ true). here v x (l ++ (w ∷ [])) f ∙ sym (ap (λ (t : List A). t ++ (w ∷ [])) (here v x l f)))
      (λ (f : before v x ≡ false). on v x (l ++ (w ∷ [])) f ∙ ap (λ (t : List A). x ∷ t) (put_before v w l e) ∙ sym (ap (λ (t : List A). t ++ (w ∷ [])) (on v x l f)))
      (decide (before v x))

  -- one that stands before none is last
  pub put_last : (v : A) (l : List A) → ((w : A) → Memᴰ w l → before v w ≡ false) → put_by before v l ≡ l ++ (v ∷ [])
  unfolding put_by
  put_last v [] f = refl
  put_last v (x ∷ l) f = on v x l (f x (Memᴰ.head refl)) ∙ ap (λ (t : List A). x ∷ t) (put_last v l (λ w m. f w (Memᴰ.tail m)))

  -- what is there then: the one put, or one of the others
  pub put_only : (v w : A) (l : List A) → Memᴰ w (put_by before v l) → (w ≡ v) ⊎ Memᴰ w l
  unfolding put_by
  put_only v w [] m = Memᴰ.cases_cons m
  put_only v w (x ∷ l) m = go (put_only v w l) (before v x) m
    where
      go : (Memᴰ w (put_by before v l) → (w ≡ v) ⊎ Memᴰ w l) → (t : Bool) → Memᴰ w (cond t (v ∷ (x ∷ l)) (x ∷ put_by before v l)) → (w ≡ v) ⊎ Memᴰ w (x ∷ l)
      go ih true m = Memᴰ.cases_cons m
      go ih false m =
          ⊎_elim
          (λ (e : w ≡ x). inr (Memᴰ.head e))
          (λ (n : Memᴰ w (put_by before v l)). ⊎_elim (λ (e : w ≡ v). inl e) (λ (o : Memᴰ w l). inr (Memᴰ.tail o)) (ih n))
          (Memᴰ.cases_cons m)

  pub put_has : (v w : A) (l : List A) → (w ≡ v) ⊎ Memᴰ w l → Memᴰ w (put_by before v l)
  unfolding put_by
  put_has v w [] s = ⊎_elim (λ (e : w ≡ v). Memᴰ.head e) (λ m. absurd (Memᴰ.not-nil m)) s
  put_has v w (x ∷ l) s = go (put_has v w l) (before v x) s
    where
      go : ((w ≡ v) ⊎ Memᴰ w l → Memᴰ w (put_by before v l)) → (t : Bool) → (w ≡ v) ⊎ Memᴰ w (x ∷ l) → Memᴰ w (cond t (v ∷ (x ∷ l)) (x ∷ put_by before v l))
      go ih true s = ⊎_elim (λ (e : w ≡ v). Memᴰ.head e) (λ (m : Memᴰ w (x ∷ l)). Memᴰ.tail m) s
      go ih false s =
          ⊎_elim
          (λ (e : w ≡ v). Memᴰ.tail (ih (inl e)))
          (λ (m : Memᴰ w (x ∷ l)). ⊎_elim (λ (e : w ≡ x). Memᴰ.head e) (λ (n : Memᴰ w l). Memᴰ.tail (ih (inr n))) (Memᴰ.cases_cons m))
          s

  pub take_member : (k : ℕ) (w : A) (l : List A) → Memᴰ w (take k l) → Memᴰ w l
  take_member zero w l m = absurd (Memᴰ.not-nil m)
  take_member (suc k) w [] m = m
  take_member (suc k) w (x ∷ l) m = ⊎_elim (λ (e : w ≡ x). Memᴰ.head e) (λ (n : Memᴰ w (take k l)). Memᴰ.tail (take_member k w l n)) (Memᴰ.cases_cons m)

  pub drop_member : (k : ℕ) (w : A) (l : List A) → Memᴰ w (drop k l) → Memᴰ w l
  drop_member zero w l m = m
  drop_member (suc k) w [] m = m
  drop_member (suc k) w (x ∷ l) m = Memᴰ.tail (drop_member k w l m)

  pub take_sorted : (k : ℕ) (l : List A) → Sorted before l → Sorted before (take k l)
  unfolding Sorted
  take_sorted zero l o = tt
  take_sorted (suc k) [] o = o
  take_sorted (suc k) (x ∷ l) o = (λ w m. o.0 w (take_member k w l m), take_sorted k l o.1)

  -- ---- with the laws of an order

  module _ (o : Order before) where
    pub not_both_ways : (v w : A) → before v w ≡ true → before w v ≡ false
    not_both_ways v w e =
        ⊎_elim
        (λ (f : before w v ≡ true). clash (o.joins v w v e f) (o.never v))
        (λ (f : before w v ≡ false). f)
        (decide (before w v))

    -- the one that stands before may be put first or last
    swapped : (v w : A) → before v w ≡ true → (l : List A) → put_by before v (put_by before w l) ≡ put_by before w (put_by before v l)
    unfolding put_by
    swapped v w e [] = rw (e, not_both_ways v w e)
    swapped v w e (x ∷ l) =
        ⊎_elim
        (λ (f : before w x ≡ true). rw (f, e, o.joins v w x e f, not_both_ways v w e) (sym (ap (λ (t : List A). v ∷ t) (here w x l f))))
        (λ (f : before w x ≡ false).
        ⊎_elim
        (λ (g : before v x ≡ true). ap (put_by before v) (on w x l f) ∙ here v x (put_by before w l) g ∙ sym (ap (λ (t : List A). v ∷ t) (on w x l f)) ∙ sym (on w v (x ∷ l) (not_both_ways v w e)) ∙ sym (ap (put_by before w) (here v x l g)))
        (λ (g : before v x ≡ false). ap (put_by before v) (on w x l f) ∙ on v x (put_by before w l) g ∙ ap (λ (t : List A). x ∷ t) (swapped v w e l) ∙ sym (on w x (put_by before v l) f) ∙ sym (ap (put_by before w) (on v x l g)))
        (decide (before v x)))
        (decide (before w x))

    pub put_swap : (v w : A) → (before v w ≡ true) ⊎ (before w v ≡ true) → (l : List A) → put_by before v (put_by before w l) ≡ put_by before w (put_by before v l)
    put_swap v w s l = ⊎_elim (λ (e : before v w ≡ true). swapped v w e l) (λ (e : before w v ≡ true). sym (swapped w v e l)) s

    pub put_sorted : (v : A) (l : List A) → Sorted before l → Sorted before (put_by before v l)
    unfolding put_by Sorted
    put_sorted v [] s = (λ w m. absurd (Memᴰ.not-nil m), tt)
    put_sorted v (x ∷ l) s = go (put_sorted v l s.1) (before v x) refl
      where
        go : Sorted before (put_by before v l) → (t : Bool) → before v x ≡ t → Sorted before (cond t (v ∷ (x ∷ l)) (x ∷ put_by before v l))
        go ih true e = (
          λ w m.
              ⊎_elim
              (λ (f : w ≡ x). rw f (not_both_ways v x e))
              (λ (n : Memᴰ w l). ⊎_elim (λ (g : before w v ≡ true). clash (o.joins w v x g e) (s.0 w n)) (λ (g : before w v ≡ false). g) (decide (before w v)))
              (Memᴰ.cases_cons m),
          s,
        )
        go ih false e = (
          λ w m. ⊎_elim (λ (f : w ≡ v). rw f e) (λ (n : Memᴰ w l). s.0 w n) (put_only v w l m),
          ih,
        )

    -- one that does not stand before the last of a list in order stands before none of it
    pub sorted_last : (v w : A) (l : List A) → Sorted before (l ++ (w ∷ [])) → before v w ≡ false → (x : A) → Memᴰ x (l ++ (w ∷ [])) → before v x ≡ false
    unfolding Sorted
    sorted_last v w [] s e x m = ⊎_elim (λ (f : x ≡ w). rw f e) (λ n. absurd (Memᴰ.not-nil n)) (Memᴰ.cases_cons m)
    sorted_last v w (y ∷ l) s e x m =
        ⊎_elim
        (λ (f : x ≡ y). rw f (⊎_elim (λ (g : before v y ≡ true). later g) (λ (g : before v y ≡ false). g) (decide (before v y))))
        (λ (n : Memᴰ x (l ++ (w ∷ []))). sorted_last v w l s.1 e x n)
        (Memᴰ.cases_cons m)
      where
        in_last : (l : List A) → Memᴰ w (l ++ (w ∷ []))
        in_last [] = Memᴰ.head refl
        in_last (z ∷ l) = Memᴰ.tail (in_last l)

        later : before v y ≡ true → before v y ≡ false
        later g = ⊎_elim (λ (f : before v w ≡ true). clash f e) (λ (f : before w y ≡ true). clash f (s.0 w (in_last l))) (o.parts v w y g)

    -- ---- from the front on

    -- those of l put among those of s
    abbrev into : List A → List A → List A
    into [] s = s
    into (v ∷ l) s = put_by before v (into l s)

    sorted_into : (l : List A) → sorted_by before l ≡ into l []
    unfolding sorted_by
    sorted_into [] = refl
    sorted_into (v ∷ l) = ap (put_by before v) (sorted_into l)

    into_front : (v : A) (l s : List A) → ((w : A) → Memᴰ w l → (before v w ≡ true) ⊎ (before w v ≡ true)) → into l (put_by before v s) ≡ put_by before v (into l s)
    into_front v [] s f = refl
    into_front v (w ∷ l) s f = ap (put_by before w) (into_front v l s (λ x m. f x (Memᴰ.tail m))) ∙ sym (put_swap v w (f w (Memᴰ.head refl)) (into l s))

    take_into : (k : ℕ) (l s : List A) → take k (into l (take k s)) ≡ take k (into l s)
    take_into k [] s = take_all k (take k s) (omega (arith, length-take k s))
    take_into k (v ∷ l) s =
        take_put k v (into l (take k s)) ∙ ap (λ (t : List A). take k (put_by before v t)) (take_into k l s) ∙ sym (take_put k v (into l s))

    gathered_into : (k : ℕ) (l s : List A) → Apart before l → length s ≤ k → gathered before k l s ≡ take k (into l s)
    unfolding gathered Apart
    gathered_into k [] s a h = sym (take_all k s h)
    gathered_into k (v ∷ l) s a h =
        gathered_into k l (take k (put_by before v s)) a.1 (omega (arith, length-take k (put_by before v s)))
        ∙ take_into k l (put_by before v s)
        ∙ ap (take k) (into_front v l s a.0)

    -- those of a list gathered from nothing are its first k
    pub gathered_first : (k : ℕ) (l : List A) → Apart before l → gathered before k l [] ≡ first_by before k l
    unfolding first_by
    gathered_first k l a = gathered_into k l [] a (omega arith) ∙ ap (take k) (sym (sorted_into l))

    pub gathered_sorted : (k : ℕ) (l s : List A) → Sorted before s → Sorted before (gathered before k l s)
    unfolding gathered
    gathered_sorted k [] s h = h
    gathered_sorted k (v ∷ l) s h = gathered_sorted k l (take k (put_by before v s)) (take_sorted k (put_by before v s) (put_sorted v s h))

  pub gathered_two : (k : ℕ) (l m s : List A) → gathered before k (l ++ m) s ≡ gathered before k m (gathered before k l s)
  unfolding gathered
  gathered_two k [] m s = refl
  gathered_two k (v ∷ l) m s = gathered_two k l m (take k (put_by before v s))

  pub gathered_short : (k : ℕ) (l s : List A) → length s ≤ k → length (gathered before k l s) ≤ k
  unfolding gathered
  gathered_short k [] s h = h
  gathered_short k (v ∷ l) s h = gathered_short k l (take k (put_by before v s)) (omega (arith, length-take k (put_by before v s)))

  -- what is held then: one that was held, or one of the list
  pub gathered_only : (k : ℕ) (l s : List A) (w : A) → Memᴰ w (gathered before k l s) → Memᴰ w s ⊎ Memᴰ w l
  unfolding gathered
  gathered_only k [] s w m = inl m
  gathered_only k (v ∷ l) s w m =
      ⊎_elim
      (λ (n : Memᴰ w (take k (put_by before v s))). ⊎_elim (λ (e : w ≡ v). inr (Memᴰ.head e)) (λ (x : Memᴰ w s). inl x) (put_only v w s (take_member k w (put_by before v s) n)))
      (λ (n : Memᴰ w l). inr (Memᴰ.tail n))
      (gathered_only k l (take k (put_by before v s)) w m)

  -- ---- one more, and those held

  -- one that stands before none of those held is not among the k, where k are held
  pub behind_stays : (k : ℕ) (v : A) (s : List A) → length s ≡ k → ((w : A) → Memᴰ w s → before v w ≡ false) → take k (put_by before v s) ≡ s
  behind_stays k v s full f = ap (take k) (put_last v s f) ∙ take_at s (v ∷ []) k full

  module _ (o : Order before) where
    -- nor after another was offered
    pub behind_on : (k : ℕ) (v u : A) (s : List A) → length s ≡ k → ((w : A) → Memᴰ w s → before v w ≡ false) → (w : A) → Memᴰ w (take k (put_by before u s)) → before v w ≡ false
    behind_on k v u s full f w m =
        ⊎_elim
        (λ (e : w ≡ u). rw e (⊎_elim (λ (h : before v u ≡ true). clash h (stays h (subst (λ (x : A). Memᴰ x (take k (put_by before u s))) e m))) (λ (h : before v u ≡ false). h) (decide (before v u))))
        (λ (n : Memᴰ w s). f w n)
        (put_only u w s (take_member k w (put_by before u s) m))
      where
        -- where v stands before u, all of s does, and u is not among the k
        stays : before v u ≡ true → Memᴰ u (take k (put_by before u s)) → before v u ≡ false
        stays h n =
            f u
            (subst (Memᴰ u)
            (behind_stays k u s full (λ x y. not_both_ways o x u (⊎_elim (λ (a : before v x ≡ true). clash a (f x y)) (λ (a : before x u ≡ true). a) (o.parts v x u h))))
            n)

    -- of a list in order, one that does not stand before the last stands before none
    pub behind_last : (v d : A) (s : List A) (m : ℕ) → length s ≡ suc m → Sorted before s → before v (get_or s m d) ≡ false → (w : A) → Memᴰ w s → before v w ≡ false
    behind_last v d s m full h e w n =
        let cut : s ≡ take m s ++ (get_or s m d ∷ []) = sym (take_all (suc m) s (omega arith)) ∙ take-suc s m d (omega arith) in
        sorted_last o v (get_or s m d) (take m s) (subst (Sorted before) cut h) e w (subst (Memᴰ w) cut n)

  module _ (k : ℕ) (v : A) (s : List A) where
    pub ranked_keeps : length s < k → take k (put_by before v s) ≡ put_by before v (take (length s) s)
    ranked_keeps h = take_all k (put_by before v s) (omega (arith, ranked_put_long v s)) ∙ ap (put_by before v) (sym (take-length s))

    module _ (d : A) (m : ℕ) (full : length s ≡ suc m) (least : k ≡ suc m) where
      pub ranked_enters : before v (get_or s m d) ≡ true → take k (put_by before v s) ≡ put_by before v (take m s)
      ranked_enters e = ap (λ (n : ℕ). take n (put_by before v s)) least ∙ take_before m v d s (omega arith) e

      pub ranked_stays : Order before → Sorted before s → before v (get_or s m d) ≡ false → take k (put_by before v s) ≡ s
      ranked_stays o h e = behind_stays k v s (full ∙ sym least) (behind_last o v d s m full h e)
