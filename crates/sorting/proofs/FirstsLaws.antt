-- Those held, as the code has them.
--     firsts_whole, held_is, firsts_held     what holds s, and what is held
--     held_gathered, fair_gathered           the same after a list was gathered
--     last_none, last_some, last_in_held        the last of k
--     never_enters, enters_last              one that is not among the k, and one that is
--     offer_asks, offer_put, offer_not       those held after one more is offered
-- Assumes nothing.
use mathlib.Core.Path.{◌≡◌, refl, sym, ap, subst, ◌∙◌}
use mathlib.Core.Bool.{Bool, true, false, ◌||◌}
use mathlib.Core.Logic.{⊎_elim}
use mathlib.Core.List.{List, [], ◌∷◌, Memᴰ}
use Prim.Native.Nat.{ℕ, zero, suc, ◌-◌, ◌≤◌, ◌<◌, min}
use native.Mathlib.Omega.{arith}
use native.Mathlib.Numerals.{add-one}
use lib.Dec.{ltb}
use lib.ListN.{length, take, get_or}
use borrow.Author.Tests.{ltb-true, ltb-false, lt-ltb, le-ltb}
use Rattle.std.proofs.Common.{Option, None, Some, MatchOption, IsTrue}
use Rattle.std.proofs.lemmas.Option.{slice_get-get_or, get_or_from_slice_get}
use Rattle.integers.proofs.Bools.{decide, or_false_left, or_false_right}
use Rattle.sorting.specs.declared.Firsts.{Firsts}
use Rattle.sorting.specs.Ranking.{put_by, Sorted, gathered, Order}
use Rattle.sorting.specs.Firsts.{firsts_of, held_firsts, HeldFirsts, put_among, last_of, enters}
use Rattle.sorting.proofs.RankingLaws.{gathered_short, gathered_sorted}
use Rattle.sorting.proofs.HeldLaws.{of_sixteen, held_of, held_put, held_over, held_same, ranked_last, put_asks}

member_at : {A : Type 0} (z : A) (l : List A) (i : ℕ) → i < length l → Memᴰ (get_or l i z) l
member_at z [] i h = absurd (omega arith)
member_at z (x ∷ l) zero h = Memᴰ.head refl
member_at z (x ∷ l) (suc i) h = Memᴰ.tail (member_at z l i (omega arith))

module _ {A : Type 0} (before : A → A → Bool) (z : A) where
  pub firsts_whole : (k : ℕ) (g : Firsts A) → HeldFirsts before z k g → g ≡ firsts_of z (held_firsts g)
  firsts_whole k g h = λ i. record { rows = h.whole i; count = sym h.long i }

  -- what is held by those that hold s
  pub held_is : (s : List A) (r : Firsts A) → r ≡ firsts_of z s → held_firsts r ≡ s
  held_is s r e = ap held_firsts e ∙ of_sixteen before z s

  pub firsts_held : (k : ℕ) (s : List A) → length s ≤ k → Sorted before s → (r : Firsts A) → r ≡ firsts_of z s → HeldFirsts before z k r
  firsts_held k s h o r e = subst (HeldFirsts before z k) (sym e) (held_of before z k s h o)

  -- ---- after a list was gathered among those held

  module _ (k : ℕ) (l : List A) (g r : Firsts A) (e : r ≡ firsts_of z (gathered before k l (held_firsts g))) where
    pub held_gathered : held_firsts r ≡ gathered before k l (held_firsts g)
    held_gathered = held_is (gathered before k l (held_firsts g)) r e

    pub fair_gathered : Order before → HeldFirsts before z k g → HeldFirsts before z k r
    fair_gathered o h =
        firsts_held k (gathered before k l (held_firsts g)) (gathered_short before k l (held_firsts g) (omega (arith, h.few, h.long))) (gathered_sorted before o k l (held_firsts g) h.sorted) r e

  -- ---- the last of k

  -- it is one of those held
  pub last_in_held : (k : ℕ) → 1 ≤ k → k ≤ 16 → (g : Firsts A) → HeldFirsts before z k g → k ≤ g.count
      → (get_or g.rows (k - 1) z ≡ get_or (held_firsts g) (k - 1) z) × Memᴰ (get_or (held_firsts g) (k - 1) z) (held_firsts g)
  last_in_held k some most g h full = (ranked_last before z k some most g.rows g.count h z full, member_at z (held_firsts g) (k - 1) (omega (arith, h.long)))

  module _ (k : ℕ) (g : Firsts A) where
    pub last_none : k - 1 < length g.rows → last_of k g ≡ None → g.count < k
    unfolding last_of
    last_none h e =
        ⊎_elim
        (λ (t : ltb g.count k ≡ true). ltb-true g.count k t)
        (λ (t : ltb g.count k ≡ false). let n = rw (t, slice_get-get_or g.rows (k - 1) z) at e in cc)
        (decide (ltb g.count k))

    pub last_some : (w : A) → last_of k g ≡ Some w → (k ≤ g.count) × (w ≡ get_or g.rows (k - 1) z)
    unfolding last_of
    last_some w e =
        ⊎_elim
        (λ (t : ltb g.count k ≡ true). let n = rw t at e in cc)
        (λ (t : ltb g.count k ≡ false). (ltb-false g.count k t, sym (get_or_from_slice_get g.rows (k - 1) w z (rw t at e))))
        (decide (ltb g.count k))

    -- said of the last of k, where k are held
    pub enters_by : k - 1 < length g.rows → (v : A) (o : Option A) → o ≡ last_of k g → (r : Bool) → MatchOption o (IsTrue r) (λ (w : A). r ≡ before v w) → r ≡ enters before z k v g
    unfolding enters
    enters_by h v None e r m = rw (lt-ltb g.count k (last_none h (sym e))) m
    enters_by h v (Some w) e r m = let y = last_some w (sym e) in rw (le-ltb g.count k y.0, ← y.1) m

    -- it is not among the k: k are held, and it does not stand before the last
    pub never_enters : (v : A) (r : Bool) → r ≡ enters before z k v g → r ≡ false → (k ≤ g.count) × (before v (get_or g.rows (k - 1) z) ≡ false)
    unfolding enters
    never_enters v r d n =
        let e : (ltb g.count k || before v (get_or g.rows (k - 1) z)) ≡ false = sym d ∙ n in
        (ltb-false g.count k (or_false_left (ltb g.count k) (before v (get_or g.rows (k - 1) z)) e), or_false_right (ltb g.count k) (before v (get_or g.rows (k - 1) z)) e)

    -- it is, though k are held
    enters_last : (v : A) → enters before z k v g ≡ true → k ≤ g.count → before v (get_or g.rows (k - 1) z) ≡ true
    unfolding enters
    enters_last v e h = let f = rw (le-ltb g.count k h) at e in f

  -- ---- one more is offered

  module _ (k : ℕ) (some : 1 ≤ k) (most : k ≤ 16) (g : Firsts A) (h : HeldFirsts before z k g) (v : A) where
    pub offer_asks : (n : ℕ) → n ≡ min g.count (k - 1) → (n < 16) × Sorted before (take n g.rows)
    offer_asks n e = put_asks before z k some most g.rows g.count h v n (omega arith) (omega arith)

    offer_few : g.count < k → (r : Firsts A) → r ≡ put_among before g.count v g → r ≡ firsts_of z (take k (put_by before v (held_firsts g)))
    unfolding put_among
    offer_few f r e =
        let y = held_put before z k some most g.rows g.count h v f _ refl in
        e ∙ (λ i. record { rows = y.0 i; count = (sym (add-one g.count) ∙ y.1) i })

    offer_over : k ≤ g.count → before v (get_or g.rows (k - 1) z) ≡ true → (r : Firsts A) → r ≡ put_among before (k - 1) v g → r ≡ firsts_of z (take k (put_by before v (held_firsts g)))
    unfolding put_among
    offer_over full b r e =
        let y = held_over before z k some most g.rows g.count h v full b _ refl in
        let s : suc (k - 1) ≡ k = omega arith in
        e ∙ (λ i. record { rows = y.0 i; count = (s ∙ y.1) i })

    -- it is put among fewer than k, or over the last of k
    pub offer_put : (t : Bool) → t ≡ enters before z k v g → t ≡ true → (n : ℕ) → n ≡ min g.count (k - 1) → (r : Firsts A) → r ≡ put_among before n v g → r ≡ firsts_of z (take k (put_by before v (held_firsts g)))
    offer_put t d y n m r e =
        let b : enters before z k v g ≡ true = sym d ∙ y in
        ⊎_elim
        (λ (x : ltb g.count k ≡ true).
        let few = ltb-true g.count k x in
        let is : n ≡ g.count = omega arith in
        offer_few few r (e ∙ ap (λ (x : ℕ). put_among before x v g) is))
        (λ (x : ltb g.count k ≡ false).
        let full = ltb-false g.count k x in
        let is : n ≡ k - 1 = omega arith in
        offer_over full (enters_last k g v b full) r (e ∙ ap (λ (x : ℕ). put_among before x v g) is))
        (decide (ltb g.count k))

    -- or it is not
    pub offer_not : Order before → k ≤ g.count → before v (get_or g.rows (k - 1) z) ≡ false → g ≡ firsts_of z (take k (put_by before v (held_firsts g)))
    offer_not o full b = firsts_whole k g h ∙ ap (firsts_of z) (sym (held_same before z k some most g.rows g.count h v full o b))
