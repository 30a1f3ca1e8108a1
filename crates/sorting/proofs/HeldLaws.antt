-- Those held, in an array of sixteen: one put in its place among the first n, from the n-th place down, where those that it stands before move up by one.
-- B is the array before, A as it stands at place i.
--     shift_start, shift_on, shift_stop, shift_end     what is left to do, before the loop, after a turn, and where it is stored
--     held_put, held_over, held_same     those held after one more is offered
-- Assumes nothing.
use mathlib.Core.Path.{◌≡◌, refl, sym, ap, subst, ◌∙◌}
use mathlib.Core.Bool.{Bool, true, false}
use mathlib.Core.Logic.{⊎_elim}
use mathlib.Core.List.{List, [], ◌∷◌, ◌++◌, append_assoc, Memᴰ}
use Prim.Native.Nat.{ℕ, suc, ◌+◌, ◌-◌, ◌≤◌, ◌<◌}
use native.Mathlib.Omega.{arith}
use native.Mathlib.Nat.{eq-or-lt_of_le}
use lib.ListN.{length, take, drop, set, get_or, replicate, length-set, length-take, drop_of_length-le, get_or-append}
use lib.Seq.{length-take-le, take-suc, drop-cons, take-take, take-append-le, take-append_seam, drop-append-le, drop-append-add, set_split, get_or-set_same, take-set-le, drop-set-lt, get_or-take, append_snoc}
use Rattle.sorting.specs.Ranking.{put_by, sixteen, Sorted, Held, Order}
use Rattle.sorting.proofs.RankingLaws.{ranked_put_long, put_none, put_before, put_last, take_sorted, sorted_last, ranked_keeps, ranked_enters, ranked_stays}

module _ {A : Type 0} (before : A → A → Bool) (z : A) where
  pub record Shifted (v : A) (B : List A) (n : ℕ) (C : List A) (i : ℕ) : Type 0 where
    pub upto : i ≤ n
    pub long : length C ≡ length B
    pub same : take i C ≡ take i B
    pub left : put_by before v (take n B) ++ drop (suc n) B ≡ put_by before v (take i B) ++ drop (suc i) C

  module _ (v : A) (B : List A) (n : ℕ) where
    pub shift_start : Shifted v B n B n
    shift_start = record { upto = omega arith; long = refl; same = refl; left = refl }

    module _ (C : List A) (i j : ℕ) (above : i ≡ suc j) (m : Shifted v B n C i) (w : A) (is : w ≡ get_or C j z) (inside : i < length B) where
      in_c : i < length C
      in_c = omega (arith, m.long)

      -- the one at the place below stands as before
      below : w ≡ get_or B j z
      below = is ∙ sym (get_or-take i C j z (omega arith)) ∙ ap (λ (t : List A). get_or t j z) m.same ∙ get_or-take i B j z (omega arith)

      cut : take i B ≡ take j B ++ (w ∷ [])
      cut = ap (λ (k : ℕ). take k B) above ∙ take-suc B j z (omega arith) ∙ ap (λ (x : A). take j B ++ (x ∷ [])) (sym below)

      -- one that it stands before moves up
      pub shift_on : before v w ≡ true → Shifted v B n (set C i w) j
      shift_on e =
          let stays : take j C ≡ take j B = sym (take-take j i C (omega arith)) ∙ ap (take j) m.same ∙ take-take j i B (omega arith) in
          let up : w ∷ drop (suc i) C ≡ drop (suc j) (set C i w) =
          sym (ap (λ (k : ℕ). drop k (set C i w)) (sym above)
          ∙ drop-cons (set C i w) i z (omega (arith, in_c, length-set C i w))
          ∙ ap (λ (x : A). x ∷ drop (suc i) (set C i w)) (get_or-set_same C i w z in_c)
          ∙ ap (λ (t : List A). w ∷ t) (drop-set-lt (suc i) C i w (omega arith))) in
          record {
            upto = omega (arith, m.upto);
            long = length-set C i w ∙ m.long;
            same = take-set-le j C i w (omega arith) ∙ stays;
            left = m.left
                ∙ ap (λ (t : List A). put_by before v t ++ drop (suc i) C) cut
                ∙ ap (λ (t : List A). t ++ drop (suc i) C) (put_before before v w (take j B) e)
                ∙ append_assoc (put_by before v (take j B)) (w ∷ []) (drop (suc i) C)
                ∙ ap (λ (t : List A). put_by before v (take j B) ++ t) up;
          }

      -- it is stored after the first that it does not stand before
      pub shift_stop : Order before → Sorted before (take n B) → before v w ≡ false → set C i v ≡ put_by before v (take n B) ++ drop (suc n) B
      shift_stop o s e =
          let part : Sorted before (take j B ++ (w ∷ [])) = subst (Sorted before) (take-take i n B m.upto ∙ cut) (take_sorted before i (take n B) s) in
          let last = sorted_last before o v w (take j B) part e in
          set_split C i v in_c
          ∙ ap (λ (t : List A). t ++ v ∷ drop (suc i) C) m.same
          ∙ sym (append_snoc (take i B) v (drop (suc i) C))
          ∙ ap (λ (t : List A). t ++ drop (suc i) C) (sym (put_last before v (take i B) (λ x k. last x (subst (Memᴰ x) cut k))))
          ∙ sym m.left

    -- or ahead of all
    pub shift_end : (C : List A) (i : ℕ) → i ≡ 0 → Shifted v B n C i → 0 < length B → set C 0 v ≡ put_by before v (take n B) ++ drop (suc n) B
    shift_end C i e m h =
        set_split C 0 v (omega (arith, m.long))
        ∙ ap (λ (t : List A). t ++ drop 1 C) (sym (put_none before v))
        ∙ ap (λ (k : ℕ). put_by before v (take k B) ++ drop (suc k) C) (sym e)
        ∙ sym m.left

  -- ---- with zeros in the unused places

  -- those held are n, or one more, which leaves
  unused : (n : ℕ) (s : List A) → n ≤ length s → length s ≤ suc n → n < 16 → drop (suc n) (sixteen z s) ≡ replicate (16 - suc n) z
  unfolding sixteen
  unused n s h g f =
      let rest = replicate (16 - length s) z in
      ⊎_elim
      (λ (e : n ≡ length s).
      let next : suc n ≡ length s + 1 = omega arith in
      let one : 16 - length s ≡ suc (16 - suc n) = omega arith in
      ap (λ (k : ℕ). drop k (s ++ rest)) next ∙ drop-append-add s rest 1 ∙ ap (λ (k : ℕ). drop 1 (replicate k z)) one)
      (λ (x : n < length s).
      let all : length s ≡ suc n = omega arith in
      drop-append-le (suc n) s rest (omega arith) ∙ ap (λ (t : List A). t ++ rest) (drop_of_length-le s {i = suc n} (omega arith)) ∙ ap (λ (k : ℕ). replicate (16 - k) z) all)
      (eq-or-lt_of_le {n = n} {m = length s} h)

  put_sixteen : (v : A) (n : ℕ) (s : List A) → n ≤ length s → length s ≤ suc n → n < 16 → put_by before v (take n (sixteen z s)) ++ drop (suc n) (sixteen z s) ≡ sixteen z (put_by before v (take n s))
  unfolding sixteen
  put_sixteen v n s h g f =
      let rest = replicate (16 - length s) z in
      let long : length (put_by before v (take n s)) ≡ suc n = ranked_put_long before v (take n s) ∙ ap suc (length-take-le n s h) in
      ap (λ (t : List A). put_by before v t ++ drop (suc n) (s ++ rest)) (take-append-le n s rest h)
      ∙ ap (λ (t : List A). put_by before v (take n s) ++ t) (unused n s h g f)
      ∙ ap (λ (k : ℕ). put_by before v (take n s) ++ replicate (16 - k) z) (sym long)

  pub at_sixteen : (s : List A) (i : ℕ) → i < length s → get_or (sixteen z s) i z ≡ get_or s i z
  unfolding sixteen
  at_sixteen s i h = get_or-append s (replicate (16 - length s) z) z i h

  -- the first of sixteen are those that were put there
  pub of_sixteen : (s : List A) → take (length s) (sixteen z s) ≡ s
  unfolding sixteen
  of_sixteen s = take-append_seam s (replicate (16 - length s) z)

  pub held_of : (k : ℕ) (s : List A) → length s ≤ k → Sorted before s → Held before z k (sixteen z s) (length s)
  held_of k s h o =
      let e = of_sixteen s in
      record { few = h; whole = ap (sixteen z) (sym e); long = ap length e; sorted = subst (Sorted before) (sym e) o }

  -- ---- one more is offered

  module _ (k : ℕ) (some : 1 ≤ k) (most : k ≤ 16) (rows : List A) (count : ℕ) (h : Held before z k rows count) (v : A) where
    abbrev held : List A
    held = take count rows

    -- what is asked to put it among the first n: all that are held, or all but the last
    pub put_asks : (n : ℕ) → n ≤ count → n < k → (n < 16) × Sorted before (take n rows)
    put_asks n l f = (omega arith, subst (Sorted before) (take-take n count rows l) (take_sorted before n held h.sorted))

    put_among : (n : ℕ) → n ≤ count → count ≤ suc n → n < k → (rows' : List A) → rows' ≡ put_by before v (take n rows) ++ drop (suc n) rows → rows' ≡ sixteen z (put_by before v (take n held))
    put_among n a b c rows' e =
        e ∙ ap (λ (t : List A). put_by before v (take n t) ++ drop (suc n) t) h.whole ∙ put_sixteen v n held (omega (arith, h.long)) (omega (arith, h.long)) (omega arith)

    -- fewer than k are held
    pub held_put : count < k → (rows' : List A) → rows' ≡ put_by before v (take count rows) ++ drop (suc count) rows → (rows' ≡ sixteen z (take k (put_by before v held))) × (count + 1 ≡ length (take k (put_by before v held)))
    held_put f rows' e =
        let all : take k (put_by before v held) ≡ put_by before v (take (length held) held) = ranked_keeps before k v held (omega (arith, h.long)) in
        let n : take count held ≡ take (length held) held = ap (λ (x : ℕ). take x held) (sym h.long) in
        (put_among count (omega arith) (omega arith) f rows' e ∙ ap (λ (t : List A). sixteen z (put_by before v t)) n ∙ ap (sixteen z) (sym all), omega (arith, length-take k (put_by before v held), ranked_put_long before v held, h.long))

    module _ (full : k ≤ count) where
      as_many : length held ≡ suc (k - 1)
      as_many = omega (arith, h.long, h.few)

      last_is : get_or rows (k - 1) z ≡ get_or held (k - 1) z
      last_is = ap (λ (t : List A). get_or t (k - 1) z) h.whole ∙ at_sixteen held (k - 1) (omega (arith, as_many))

      -- the last of k is held
      pub ranked_last : get_or rows (k - 1) z ≡ get_or held (k - 1) z
      ranked_last = last_is

      -- k are held, and it stands before the last
      pub held_over : before v (get_or rows (k - 1) z) ≡ true → (rows' : List A) → rows' ≡ put_by before v (take (k - 1) rows) ++ drop (suc (k - 1)) rows → (rows' ≡ sixteen z (take k (put_by before v held))) × (k ≡ length (take k (put_by before v held)))
      held_over e rows' f =
          let over = ranked_enters before k v held z (k - 1) as_many (omega arith) (ap (before v) (sym last_is) ∙ e) in
          (put_among (k - 1) (omega arith) (omega (arith, h.few)) (omega arith) rows' f ∙ ap (sixteen z) (sym over), omega (arith, length-take k (put_by before v held), ranked_put_long before v held, h.long))

      -- k are held, and it does not
      pub held_same : Order before → before v (get_or rows (k - 1) z) ≡ false → take k (put_by before v held) ≡ held
      held_same o e = ranked_stays before k v held z (k - 1) as_many (omega arith) o h.sorted (ap (before v) (sym last_is) ∙ e)
