-- What the first k of a list in an order are, from the definitions alone.
--     first_long      as many as k, or as the list has
--     ranked_only      of the list
--     first_rises     in order: each stands before all that are listed behind it, so that none is there twice
--     first_ahead     and before each of the list that is not among them
-- Assumes nothing.
use mathlib.Core.Path.{◌≡◌, refl, sym, ap, subst, ◌∙◌}
use mathlib.Core.Bool.{Bool, true, false, cond}
use mathlib.Core.Logic.{◌⊎◌, inl, inr, ⊎_elim}
use mathlib.Core.List.{List, [], ◌∷◌, Memᴰ}
use Prim.Native.Nat.{ℕ, zero, suc, min, ◌<◌}
use native.Mathlib.Omega.{arith}
use lib.ListN.{length, take, drop, get_or, length-take, take-append-drop}
use Rattle.integers.proofs.Bools.{clash}
use Rattle.sorting.specs.Ranking.{put_by, sorted_by, first_by, Apart, Sorted, Order}
use Rattle.sorting.proofs.RankingLaws.{ranked_put_long, put_only, put_has, put_sorted, take_member, drop_member}

module _ {A : Type 0} (before : A → A → Bool) where
  sorted_only : (v : A) (l : List A) → Memᴰ v (sorted_by before l) → Memᴰ v l
  unfolding sorted_by
  sorted_only v [] m = m
  sorted_only v (w ∷ l) m = ⊎_elim (λ (e : v ≡ w). mathlib.Core.List.Memᴰ.head e) (λ (n : Memᴰ v (sorted_by before l)). mathlib.Core.List.Memᴰ.tail (sorted_only v l n)) (put_only before w v (sorted_by before l) m)

  sorted_has : (v : A) (l : List A) → Memᴰ v l → Memᴰ v (sorted_by before l)
  unfolding sorted_by
  sorted_has v [] m = m
  sorted_has v (w ∷ l) m = put_has before w v (sorted_by before l) (⊎_elim (λ (e : v ≡ w). inl e) (λ (n : Memᴰ v l). inr (sorted_has v l n)) (mathlib.Core.List.Memᴰ.cases_cons m))

  sorted_long : (l : List A) → length (sorted_by before l) ≡ length l
  unfolding sorted_by
  sorted_long [] = refl
  sorted_long (v ∷ l) = ranked_put_long before v (sorted_by before l) ∙ ap suc (sorted_long l)

  -- any two of a list that the order tells apart
  pub two_apart : (l : List A) → Apart before l → (v w : A) → Memᴰ v l → Memᴰ w l → (v ≡ w) ⊎ ((before v w ≡ true) ⊎ (before w v ≡ true))
  unfolding Apart
  two_apart [] a v w m n = absurd (mathlib.Core.List.Memᴰ.not-nil m)
  two_apart (x ∷ l) a v w m n =
      ⊎_elim
      (λ (e : v ≡ x).
      ⊎_elim
      (λ (f : w ≡ x). inl (e ∙ sym f))
      (λ (y : Memᴰ w l). inr (rw e (a.0 w y)))
      (mathlib.Core.List.Memᴰ.cases_cons n))
      (λ (y : Memᴰ v l).
      ⊎_elim
      (λ (f : w ≡ x). inr (rw f (⊎_elim (λ (t : before x v ≡ true). inr t) (λ (t : before v x ≡ true). inl t) (a.0 v y))))
      (λ (z : Memᴰ w l). two_apart l a.1 v w y z)
      (mathlib.Core.List.Memᴰ.cases_cons n))
      (mathlib.Core.List.Memᴰ.cases_cons m)

  Rises : List A → Type 0
  Rises [] = Unit
  Rises (v ∷ l) = ((w : A) → Memᴰ w l → before v w ≡ true) × Rises l

  take_rises : (k : ℕ) (l : List A) → Rises l → Rises (take k l)
  unfolding Rises
  take_rises zero l r = tt
  take_rises (suc k) [] r = r
  take_rises (suc k) (x ∷ l) r = (λ w m. r.0 w (take_member before k w l m), take_rises k l r.1)

  member_of : (z : A) (l : List A) (i : ℕ) → i < length l → Memᴰ (get_or l i z) l
  member_of z [] i h = absurd (omega arith)
  member_of z (x ∷ l) zero h = mathlib.Core.List.Memᴰ.head refl
  member_of z (x ∷ l) (suc i) h = mathlib.Core.List.Memᴰ.tail (member_of z l i (omega arith))

  rises_places : (z : A) (l : List A) → Rises l → (a b : ℕ) → a < b → b < length l → before (get_or l a z) (get_or l b z) ≡ true
  unfolding Rises
  rises_places z [] r a b h g = absurd (omega arith)
  rises_places z (v ∷ l) r a zero h g = absurd (omega arith)
  rises_places z (v ∷ l) r zero (suc b) h g = r.0 (get_or l b z) (member_of z l b (omega arith))
  rises_places z (v ∷ l) r (suc a) (suc b) h g = rises_places z l r.1 a b (omega arith) (omega arith)

  -- the first k and the rest
  parted : (k : ℕ) (l : List A) → Sorted before l → (v w : A) → Memᴰ w (take k l) → Memᴰ v (drop k l) → before v w ≡ false
  unfolding Sorted
  parted zero l o v w m n = absurd (mathlib.Core.List.Memᴰ.not-nil m)
  parted (suc k) [] o v w m n = absurd (mathlib.Core.List.Memᴰ.not-nil m)
  parted (suc k) (x ∷ l) o v w m n =
      ⊎_elim (λ (e : w ≡ x). rw e (o.0 v (drop_member before k v l n))) (λ (p : Memᴰ w (take k l)). parted k l o.1 v w p n) (mathlib.Core.List.Memᴰ.cases_cons m)

  module _ (k : ℕ) (l : List A) where
    -- "k 1 to 16, fewer if there are fewer"
    pub first_long : length (first_by before k l) ≡ min k (length l)
    unfolding first_by
    first_long = length-take k (sorted_by before l) ∙ ap (min k) (sorted_long l)

    pub ranked_only : (v : A) → Memᴰ v (first_by before k l) → Memᴰ v l
    unfolding first_by
    ranked_only v m = sorted_only v l (take_member before k v (sorted_by before l) m)

  module _ (o : Order before) where
    put_rises : (v : A) (l : List A) → ((w : A) → Memᴰ w l → (before v w ≡ true) ⊎ (before w v ≡ true)) → Rises l → Rises (put_by before v l)
    unfolding put_by Rises
    put_rises v [] f r = (λ w m. absurd (mathlib.Core.List.Memᴰ.not-nil m), tt)
    put_rises v (x ∷ l) f r = go (put_rises v l (λ w m. f w (mathlib.Core.List.Memᴰ.tail m)) r.1) (before v x) refl
      where
        go : Rises (put_by before v l) → (t : Bool) → before v x ≡ t → Rises (cond t (v ∷ (x ∷ l)) (x ∷ put_by before v l))
        go ih true e = (
          λ w m. ⊎_elim (λ (s : w ≡ x). rw s e) (λ (n : Memᴰ w l). o.joins v x w e (r.0 w n)) (mathlib.Core.List.Memᴰ.cases_cons m),
          r,
        )
        go ih false e = (
          λ w m.
              ⊎_elim
              (λ (s : w ≡ v). rw s (⊎_elim (λ (t : before v x ≡ true). clash t e) (λ (t : before x v ≡ true). t) (f x (mathlib.Core.List.Memᴰ.head refl))))
              (λ (n : Memᴰ w l). r.0 w n)
              (put_only before v w l m),
          ih,
        )

    sorted_rises : (l : List A) → Apart before l → Rises (sorted_by before l)
    unfolding sorted_by Apart Rises
    sorted_rises [] a = tt
    sorted_rises (v ∷ l) a = put_rises v (sorted_by before l) (λ w m. a.0 w (sorted_only w l m)) (sorted_rises l a.1)

    sorted_sorted : (l : List A) → Sorted before (sorted_by before l)
    unfolding sorted_by Sorted
    sorted_sorted [] = tt
    sorted_sorted (v ∷ l) = put_sorted before o v (sorted_by before l) (sorted_sorted l)

    module _ (k : ℕ) (l : List A) (a : Apart before l) where
      pub first_rises : (z : A) (x y : ℕ) → x < y → y < length (first_by before k l) → before (get_or (first_by before k l) x z) (get_or (first_by before k l) y z) ≡ true
      unfolding first_by
      first_rises z = rises_places z (take k (sorted_by before l)) (take_rises k (sorted_by before l) (sorted_rises l a))

      pub first_ahead : (v w : A) → Memᴰ v l → (Memᴰ v (first_by before k l) → ⊥) → Memᴰ w (first_by before k l) → before w v ≡ true
      unfolding first_by
      first_ahead v w m out n =
          let s = sorted_by before l in
          let rest : Memᴰ v (drop k s) =
          ⊎_elim (λ (x : Memᴰ v (take k s)). absurd (out x)) (λ (x : Memᴰ v (drop k s)). x)
          (mathlib.Core.List.Memᴰ.append_cases (take k s) (subst (Memᴰ v) (sym (take-append-drop k s)) (sorted_has v l m))) in
          ⊎_elim
          (λ (e : w ≡ v). absurd (out (mathlib.Core.List.Memᴰ.cast (sym e) n)))
          (λ (e : (before w v ≡ true) ⊎ (before v w ≡ true)).
          ⊎_elim (λ (t : before w v ≡ true). t) (λ (t : before v w ≡ true). clash t (parted k s (sorted_sorted l) v w n rest)) e)
          (two_apart l a w v (sorted_only w l (take_member before k w s n)) m)
