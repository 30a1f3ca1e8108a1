-- Many pairs at once: "of the list of these terms [..] those pairs strictly after the key whose size is at most `largest` [..], the first so many as the lent slice has slots, their number, whether more follow".
-- For every two sheets that open, or one in both places for a self join, and in terms of what the shipped calls answer for them: of any terms (t, kind, contractor, profile), so the calls of two sheets and those of
-- a self join are spoken of in one. `Sized` is the list to a size; `after key Sized` are its pairs strictly after the key.
--
--     many_served        what is in range is served.  pairs_given: it stores the first so many pairs after the key as there are slots, says how many these are, and whether more follow
--     pairs_exact        a pair is one of those after the key exactly if it is in the list of these terms, its size is at most the largest, its chamber has at least t such pairs, and it is after the key.
--                        pairs_listed: so it is one of the list of t.  pairs_only: each that is stored is one of these.  pairs_order, pairs_each: they stand in the list's order, each once, by ids
--     pairs_size         each pair has the size of the places of its two records, and that is at most the largest
--     pairs_untouched    the slots past those stored are as they were; where refused all are: `pairs_no_lem` and `own_pairs_no_lem` of Demand1
--     pairs_whole        to the greatest size it is the list of the terms.  pairs_list_lem: so with a slot for each pair, from (0, 0) on, the whole list is stored and nothing follows
--     follow_list        calls that follow each other store a first part of the pairs after the first key, all of them exactly if the last one says that no more follow.  follow_ends: each that says that more
--                        follow has stored a pair, so that they end.  follow_exact: whoever follows them to the end has the pairs that `pairs_exact` names, and no others
--     count_tells        the number of pairs is that of all from the start.  count_enough: and whoever lends so many slots gets them all
--     pairs_by_points    sheets with the same points give the same
--     own_many, own_number_of     the calls of a self join answer as those of its terms
-- Assumes nothing.
use mathlib.Core.Path.{◌≡◌, refl, sym, ap, ap₂, subst, ◌∙◌}
use mathlib.Core.Bool.{Bool, true, false, not, true≢false}
use mathlib.Core.Logic.{◌↔◌, ⊎_elim}
use mathlib.Core.List.Memᴰ
use mathlib.Core.List.{List, [], ◌∷◌, ◌++◌, Memᴰ, append_assoc}
use Prim.Native.Nat.{ℕ, min, ◌≤◌, ◌<◌}
use native.Mathlib.Omega.{arith}
use lib.Dec.{ltb}
use lib.IntN.{ℤ}
use lib.ListN.{length, take, drop, get_or, length-take, length-drop, length-append, take-append-drop}
use lib.Seq.{take_all, take-append_seam, drop-append_seam}
use borrow.Author.Tests.{le-leb, le-ltb, ltb-true, ltb-false, lt-ltb}
use Rattle.integers.proofs.Bools.{decide}
use Rattle.words.specs.First.{given, first}
use Rattle.words.specs.Range.{last_id}
use Rattle.words.proofs.FirstLaws.{answer_given}
use Rattle.plane.specs.Point.{id_at}
use Rattle.sheet.specs.Layout.{points}
use Rattle.sheet.specs.Places.{spot_of, points_of}
use Rattle.sheet.proofs.SheetLaws.{sheet_facts}
use Rattle.sheet.proofs.PointsLaws.{length_points, spot_of_lem}
use Rattle.list.specs.declared.Key.{Key}
use Rattle.list.specs.declared.Pair.{Pair}
use Rattle.list.specs.declared.Terms.{Terms}
use Rattle.list.specs.Pairs.{start, none, key_of, follows, ascends, after, last_or, is_none}
use Rattle.list.specs.Pages.{shown, last_threshold, threshold_no}
use Rattle.list.specs.Rows.{Rising}
use Rattle.list.specs.Terms.{profile_for, list_for, alone_by, of_kind}
use Rattle.list.proofs.Order.{after_all, after_asc, asc_left, once_key, last_holds}
use Rattle.list.proofs.PageLaws.{after_shown, none_drop, shown_member}
use Rattle.list.proofs.TermsLaws.{kind_of}
use Rattle.list.proofs.ContractorLaws.{contractor_fits}
use Rattle.join.proofs.Meaning.{points_rise}
use Rattle.ring.specs.Lent.{need}
use Rattle.ring.specs.Numbers.{grid_no}
use Rattle.ring.specs.Page.{key_no}
use Rattle.ring.proofs.LentLaws.{bits_enough}
use Rattle.ring.proofs.PageLaws.{forms_reach}
use Rattle.chamber.specs.Sized.{list_to}
use Rattle.many.specs.declared.Many.{Many}
use Rattle.many.specs.declared.Counted.{Counted}
use Rattle.many.specs.Many.{last_largest, largest_no, pairs_no, own_pairs_no, count_no, own_count_no, pairs_list, own_list, many_given, many_refused, stored, pairs_answer, pairs_slots, own_pairs_answer, own_pairs_slots, count_given, count_refused, count_answer, own_count_answer}
use Rattle.many.proofs.Meaning.{list_whole}
use Rattle.demands.specs.Promises.{OwnPairsAnswers, OwnCountAnswers, wanted_of, which_of, ManyOfKind, ManyAnswers, CountOfKind, NumberAnswers}
use Rattle.demands.specs.Many.{InRange, Belongs, any_number, Follow, calls, again}
use Rattle.demands.proofs.Demand1.{pairs_no_lem, own_pairs_no_lem}
use Rattle.demands.proofs.Demand2.{WellFormed, Whose}
use Rattle.demands.proofs.SizedLaws.{at_most_iff, at_most_more, to_ascends, to_keys, to_size, sized_iff}

-- ---- lists

-- what stands after a key in a list
after_iff : (k : Key) (l : List Pair) (v : Pair) → Memᴰ v (after k l) ↔ (Memᴰ v l × (follows k (key_of v) ≡ true))
unfolding after
after_iff k [] v = (λ m. absurd (Memᴰ.not-nil m), λ x. absurd (Memᴰ.not-nil x.0))
after_iff k (w ∷ l) v =
    let z = after_iff k l v in
    ⊎_elim
    (λ (e : follows k (key_of w) ≡ true).
    rw e (
      λ m. ⊎_elim (λ (x : v ≡ w). (Memᴰ.head x, ap (λ (u : Pair). follows k (key_of u)) x ∙ e)) (λ (x : Memᴰ v (after k l)). (Memᴰ.tail (z.0 x).0, (z.0 x).1)) (Memᴰ.cases_cons m),
      λ x. ⊎_elim (λ (y : v ≡ w). Memᴰ.head y) (λ (y : Memᴰ v l). Memᴰ.tail (z.1 (y, x.1))) (Memᴰ.cases_cons x.0),
    ))
    (λ (e : follows k (key_of w) ≡ false).
    rw e (
      λ m. (Memᴰ.tail (z.0 m).0, (z.0 m).1),
      λ x. ⊎_elim (λ (y : v ≡ w). absurd (true≢false (sym x.1 ∙ ap (λ (u : Pair). follows k (key_of u)) y ∙ e))) (λ (y : Memᴰ v l). z.1 (y, x.1)) (Memᴰ.cases_cons x.0),
    ))
    (decide (follows k (key_of w)))

-- "whether more follow" the first n
more_is : (n : ℕ) (l : List Pair) → (not (is_none (drop n l)) ≡ true) ↔ (n < length l)
more_is n l =
    let z : not (is_none (drop n l)) ≡ ltb n (length l) = ap not (none_drop n l) ∙ twice (ltb n (length l)) in
    (λ e. ltb-true n (length l) (sym z ∙ e), λ h. z ∙ lt-ltb n (length l) h)
  where
    twice : (t : Bool) → not (not t) ≡ t
    twice true = refl
    twice false = refl

-- a first part is known by its length
front_is : (s t : List Pair) (m : ℕ) → s ≡ take m t → s ≡ take (length s) t
front_is s t m e = sym (take-append_seam s (drop m t)) ∙ ap (take (length s)) (ap (λ (x : List Pair). x ++ drop m t) e ∙ take-append-drop m t)

-- it is all exactly if no more follow
front_ends : (more : Bool) (m : ℕ) (t s : List Pair) → s ≡ take m t → ((more ≡ true) ↔ (m < length t)) → (more ≡ false) ↔ (s ≡ t)
front_ends true m t s e z = (λ x. absurd (true≢false x), λ y. absurd (omega (arith, z.0 refl, length-take m t, ap length (sym e ∙ y))))
front_ends false m t s e z = (λ x. e ∙ take_all m t (few (ltb m (length t)) refl), λ y. refl)
  where
    few : (b : Bool) → ltb m (length t) ≡ b → length t ≤ m
    few true g = absurd (true≢false (sym (z.1 (ltb-true m (length t) g))))
    few false g = ltb-false m (length t) g

-- a first part, and a first part of the rest
module _ (s l t : List Pair) (m : ℕ) (e : s ≡ take m t) where
  rest_is : s ++ drop m t ≡ t
  rest_is = ap (λ (x : List Pair). x ++ drop m t) e ∙ take-append-drop m t

  joined : l ≡ take (length l) (drop m t) → s ++ l ≡ take (length (s ++ l)) t
  joined f =
      let x = drop (length l) (drop m t) in
      let whole : (s ++ l) ++ x ≡ t = append_assoc s l x ∙ ap (λ (y : List Pair). s ++ y) (ap (λ (y : List Pair). y ++ x) f ∙ take-append-drop (length l) (drop m t)) ∙ rest_is in
      sym (take-append_seam (s ++ l) x) ∙ ap (take (length (s ++ l))) whole

  joined_all : (more : Bool) → ((more ≡ false) ↔ (l ≡ drop m t)) → (more ≡ false) ↔ (s ++ l ≡ t)
  joined_all more z = (
    λ x. ap (λ (y : List Pair). s ++ y) (z.0 x) ∙ rest_is,
    λ y. z.1 (sym (drop-append_seam s l) ∙ ap (drop (length s)) (y ∙ sym rest_is) ∙ drop-append_seam s (drop m t)),
  )

module _ (P Q : List ℤ) (p_opens : WellFormed P) (q_opens : WellFormed Q) (a : Terms) (o : List ℕ) (big : ℕ) where
  p_rises : Rising (id_at (points_of P)) (length (points_of P))
  p_rises = points_rise (sheet_facts P p_opens)

  q_rises : Rising (id_at (points_of Q)) (length (points_of Q))
  q_rises = points_rise (sheet_facts Q q_opens)

  -- the list to a size, of these points, by the owner bytes o
  abbrev pub Sized : List Pair
  Sized = list_to big a o (points_of P) (points_of Q)

  -- the list of the terms, with no t
  abbrev pub Whole : List Pair
  Whole = list_for (any_number a) o (points_of P) (points_of Q)

  sized_ascends : ascends start Sized ≡ true
  sized_ascends = to_ascends big a o (points_of P) (points_of Q) p_rises q_rises

  -- Those pairs of the list to a size that stand after a key are exactly these. [MP1, MP2]
  pub pairs_exact : (key : Key) (v : Pair) → Memᴰ v (after key Sized) ↔ Belongs a o P Q big key v
  pairs_exact key v =
      let s = sized_iff big a o (points_of P) (points_of Q) p_rises q_rises v in
      let t = at_most_iff big Whole v in
      let u = after_iff key Sized v in (
        λ m. let x = s.0 (u.0 m).0 in record { listed = (t.0 x.0).0; small = (t.0 x.0).1; many = x.1; late = (u.0 m).1 },
        λ x. u.1 (s.1 (t.1 (x.listed, x.small), x.many), x.late),
      )

  -- "8*10^18 means all": to the greatest size that is taken it is the list of the terms [MP3]
  pub pairs_whole : big ≡ last_largest → grid_no a.grid P Q ≡ 0 → Sized ≡ list_for a o (points_of P) (points_of Q)
  pairs_whole e forms =
      let z = forms_reach a.grid P Q p_opens q_opens forms in
      ap (λ (n : ℕ). list_to n a o (points_of P) (points_of Q)) e ∙ list_whole a o (points_of P) (points_of Q) z.0 z.1

  -- and each of these pairs is one of the list of the terms, with their t: its chamber has at least t pairs of whatever size [MP1, MP2]
  pub pairs_listed : big ≤ last_largest → grid_no a.grid P Q ≡ 0 → (key : Key) (v : Pair) → Belongs a o P Q big key v → Memᴰ v (list_for a o (points_of P) (points_of Q))
  pairs_listed fits forms key v x =
      let z = forms_reach a.grid P Q p_opens q_opens forms in
      let s = sized_iff last_largest a o (points_of P) (points_of Q) p_rises q_rises v in
      subst (Memᴰ v) (list_whole a o (points_of P) (points_of Q) z.0 z.1)
      (s.1 ((at_most_iff last_largest Whole v).1 (x.listed, omega (arith, x.small, fits)), omega (arith, x.many, at_most_more v.q big last_largest fits Whole)))

  module _ (key : Key) (slots : List Pair) (w : List ℕ) (r : Many) (slots' : List Pair) (w' : List ℕ) (answers : ManyAnswers a o P Q key big slots w r slots' w') where
    -- what is answered with 0 is the first so many pairs after the key, in slots of which the rest is as it was
    many_answered : r.number ≡ 0 → (r ≡ many_given (length slots) (after key Sized)) × (slots' ≡ stored slots (after key Sized))
    unfolding pairs_answer pairs_slots pairs_list own_pairs_answer own_pairs_slots own_list
    many_answered fine = go a.own refl answers
      where
        go : (k : Bool) → a.own ≡ k → ManyOfKind k a o P Q key big slots w r slots' w' → (r ≡ many_given (length slots) (after key Sized)) × (slots' ≡ stored slots (after key Sized))
        go false e x =
            let ask = wanted_of a key big in
            let nr : pairs_no P Q o ask (length w) ≡ 0 = sym (pairs_no_lem P Q o ask slots w r slots' w' x).0 ∙ fine in
            let l : pairs_list P Q o ask ≡ after key Sized = ap (λ (b : Terms). after key (list_to big b o (points_of P) (points_of Q))) (kind_of a false e) in (
              x.0 ∙ answer_given (many_given (length slots) (pairs_list P Q o ask)) many_refused (pairs_no P Q o ask (length w)) nr ∙ ap (many_given (length slots)) l,
              x.1 ∙ answer_given (stored slots (pairs_list P Q o ask)) (λ k. slots) (pairs_no P Q o ask (length w)) nr ∙ ap (stored slots) l,
            )
        go true e x =
            let nr : own_pairs_no P key big a.grid (length w) ≡ 0 = sym (own_pairs_no_lem P key big a.grid slots w r slots' w' x.4).0 ∙ fine in
            let l : own_list P key big a.grid ≡ after key Sized =
            ap₂ (λ (R : List ℤ) (b : List ℕ). after key (list_to big (alone_by a.grid) b (points_of P) (points_of R))) x.0 (sym x.3)
            ∙ ap (λ (b : Terms). after key (list_to big b o (points_of P) (points_of Q))) (λ i. record { threshold = sym x.1 i; contractor = sym x.2 i; own = sym e i; grid = a.grid }) in (
              x.4.0 ∙ answer_given (many_given (length slots) (own_list P key big a.grid)) many_refused (own_pairs_no P key big a.grid (length w)) nr ∙ ap (many_given (length slots)) l,
              x.4.1 ∙ answer_given (stored slots (own_list P key big a.grid)) (λ k. slots) (own_pairs_no P key big a.grid (length w)) nr ∙ ap (stored slots) l,
            )

    module _ (h : InRange key a.threshold big) (of-whom : Whose a.contractor o (points Q)) (forms : grid_no a.grid P Q ≡ 0) (enough : need P ≤ length w) where
      -- A key, a t, a contractor and a largest size in range are served, with the owner bytes of a contractor, of sheets of form 1 for the street grid, with words enough, however many slots there are.
      -- [MP13]
      pub many_served : r.number ≡ 0
      unfolding pairs_no own_pairs_no key_no threshold_no largest_no first given
      many_served = go a.own answers
        where
          go : (k : Bool) → ManyOfKind k a o P Q key big slots w r slots' w' → r.number ≡ 0
          go false x =
              (pairs_no_lem P Q o (wanted_of a key big) slots w r slots' w' x).0
              ∙ rw (p_opens, q_opens, contractor_fits a.contractor of-whom.whose, of-whom.bytes, forms, le-leb key.q last_id h.q_in, le-leb key.p last_id h.p_in, le-leb a.threshold last_threshold h.fair, le-ltb last_largest big h.fits, bits_enough (need P) (length w) enough)
          go true x =
              (own_pairs_no_lem P key big a.grid slots w r slots' w' x.4).0
              ∙ rw (p_opens, subst (λ (R : List ℤ). grid_no a.grid P R ≡ 0) (sym x.0) forms, le-leb key.q last_id h.q_in, le-leb key.p last_id h.p_in, le-ltb last_largest big h.fits, bits_enough (need P) (length w) enough)

      count_is : r.count ≡ length (take (length slots) (after key Sized))
      unfolding many_given
      count_is = ap (λ (x : Many). x.count) (many_answered many_served).0

      slots_are : slots' ≡ take (length slots) (after key Sized) ++ drop (length (take (length slots) (after key Sized))) slots
      unfolding stored
      slots_are = (many_answered many_served).1

      -- the pairs stored
      pub pairs_are : take r.count slots' ≡ take (length slots) (after key Sized)
      pairs_are = ap₂ take count_is slots_are ∙ take-append_seam (take (length slots) (after key Sized)) _

      -- "the first so many as the lent slice has slots, their number, whether more follow (with no slots: 0, and whether any follow)" [MP1, MP6]
      pub pairs_given : (r.count ≡ min (length slots) (length (after key Sized))) × (take r.count slots' ≡ take (length slots) (after key Sized)) × ((r.more ≡ true) ↔ (length slots < length (after key Sized)))
      unfolding many_given
      pairs_given =
          let m = ap (λ (x : Many). x.more) (many_answered many_served).0 in
          let z = more_is (length slots) (after key Sized) in
          (count_is ∙ length-take (length slots) (after key Sized), pairs_are, (λ e. z.0 (sym m ∙ e), λ g. m ∙ z.1 g))

      -- "the rest of the slots untouched" [MP5]
      pub pairs_untouched : drop r.count slots' ≡ drop r.count slots
      pairs_untouched = ap₂ drop count_is slots_are ∙ drop-append_seam (take (length slots) (after key Sized)) _ ∙ ap (λ (n : ℕ). drop n slots) (sym count_is)

      -- Each pair that is stored is one that is asked for, [MP1]
      pub pairs_only : (v : Pair) → Memᴰ v (take r.count slots') → Belongs a o P Q big key v
      pairs_only v m =
          (pairs_exact key v).0
          (subst (Memᴰ v) (take-append-drop (length slots) (after key Sized)) (Memᴰ.append_left (drop (length slots) (after key Sized)) (subst (Memᴰ v) pairs_are m)))

      -- each stands after the one before it, the first after the key, [MP4]
      pub pairs_order : ascends key (take r.count slots') ≡ true
      pairs_order =
          let t = after key Sized in
          ap (ascends key) pairs_are ∙ asc_left key (take (length slots) t) (drop (length slots) t) (ap (ascends key) (take-append-drop (length slots) t) ∙ after_asc key start Sized sized_ascends)

      -- so no two have the same ids, [MP4]
      pub pairs_each : (k n : ℕ) → k < n → n < length (take r.count slots') → key_of (get_or (take r.count slots') k none) ≡ key_of (get_or (take r.count slots') n none) → ⊥
      pairs_each k n = once_key key (take r.count slots') pairs_order k n

      -- and each has the size of the places of the two records with its ids, which is at most the largest. [MP4]
      pub pairs_size : (v : Pair) → Memᴰ v (take r.count slots')
          → (v.size ≤ big) × ((j i : ℕ) → j < points Q → i < points P → id_at (points_of Q) j ≡ v.q → id_at (points_of P) i ≡ v.p → v.size ≡ (profile_for a).size (spot_of Q j) (spot_of P i))
      unfolding shown
      pairs_size v m = (
        (pairs_only v m).small,
        λ j i j_in i_in e f.
            to_size big a o (points_of P) (points_of Q) p_rises q_rises v (shown_member Sized key (length slots) v (subst (Memᴰ v) pairs_are m)) j i (omega (arith, length_points Q)) (omega (arith, length_points P)) e f
            ∙ ap₂ (profile_for a).size (spot_of_lem Q j j_in) (spot_of_lem P i i_in),
      )

      -- "8*10^18 means all": from the start, with a slot for each pair, the whole list of the terms is stored, and nothing follows. [MP3]
      pub pairs_list_lem : key ≡ start → big ≡ last_largest → length (list_for a o (points_of P) (points_of Q)) ≤ length slots → (take r.count slots' ≡ list_for a o (points_of P) (points_of Q)) × (r.more ≡ false)
      pairs_list_lem from all room =
          let l : after key Sized ≡ list_for a o (points_of P) (points_of Q) = ap (λ (k : Key). after k Sized) from ∙ after_all start Sized sized_ascends ∙ pairs_whole all forms in
          (pairs_are ∙ ap (take (length slots)) l ∙ take_all (length slots) (list_for a o (points_of P) (points_of Q)) room, ends r.more refl (omega (arith, ap length l)))
        where
          ends : (t : Bool) → r.more ≡ t → length (after key Sized) ≤ length slots → r.more ≡ false
          ends true e g = absurd (omega (arith, pairs_given.2.0 e))
          ends false e g = e

  -- ---- calls that follow each other

  module _ (of-whom : Whose a.contractor o (points Q)) (forms : grid_no a.grid P Q ≡ 0) where
    -- the key of the last pair stored is in range, as the key before it was
    next_fair : (key : Key) → InRange key a.threshold big → (n : ℕ) → InRange (last_or key (take n (after key Sized))) a.threshold big
    unfolding shown
    next_fair key h n =
        last_holds (λ (k : Key). InRange k a.threshold big) key (take n (after key Sized)) h
        (λ v m.
        let z = to_keys big a o (points_of P) (points_of Q) p_rises q_rises v (shown_member Sized key n v m) in
        record { q_in = z.0; p_in = z.1; fair = h.fair; fits = h.fits })

    -- what stands after that key
    next_after : (key : Key) (n : ℕ) → after (last_or key (take n (after key Sized))) Sized ≡ drop n (after key Sized)
    unfolding shown
    next_after key n = after_shown start key Sized n sized_ascends

    -- what calls that follow each other have stored, and the last one said
    abbrev Told : Key → List Pair → Bool → Type 0
    Told key l more = (l ≡ take (length l) (after key Sized)) × ((more ≡ false) ↔ (l ≡ after key Sized))

    -- the same of what is left after the first n
    abbrev Left : Key → ℕ → List Pair → Bool → Type 0
    Left key n l more = (l ≡ take (length l) (drop n (after key Sized))) × ((more ≡ false) ↔ (l ≡ drop n (after key Sized)))

    module _ (key : Key) (slots : List Pair) (w : List ℕ) (r : Many) (slots' : List Pair) (w' : List ℕ) (x : ManyAnswers a o P Q key big slots w r slots' w') (h : InRange key a.threshold big) (enough : need P ≤ length w) where
      later_fair : InRange (last_or key (take r.count slots')) a.threshold big
      later_fair = subst (λ (y : List Pair). InRange (last_or key y) a.threshold big) (sym (pairs_given key slots w r slots' w' x h of-whom forms enough).1) (next_fair key h (length slots))

      later_told : (l : List Pair) (more : Bool) → Told (last_or key (take r.count slots')) l more → Left key (length slots) l more
      later_told l more z =
          subst (λ (d : List Pair). (l ≡ take (length l) d) × ((more ≡ false) ↔ (l ≡ d)))
          (ap (λ (y : List Pair). after (last_or key y) Sized) (pairs_given key slots w r slots' w' x h of-whom forms enough).1 ∙ next_after key (length slots)) z

    -- "following it gives the list, as pages do": calls that follow each other, each lent at least one slot, store a first part of the pairs after the first key. No more follow exactly if these are all.
    -- [MP7]
    pub follow_list : {n : ℕ} {key : Key} {l : List Pair} {more : Bool} → InRange key a.threshold big → Follow a o P Q big n key l more
        → (l ≡ take (length l) (after key Sized)) × ((more ≡ false) ↔ (l ≡ after key Sized))
    follow_list h (calls key slots w r slots' w' some enough x) =
        let g = pairs_given key slots w r slots' w' x h of-whom forms enough in
        (front_is (take r.count slots') (after key Sized) (length slots) g.1, front_ends r.more (length slots) (after key Sized) (take r.count slots') g.1 g.2)
    follow_list {more = more} h (again {n} {l} key slots w r slots' w' some enough x f) =
        let g = pairs_given key slots w r slots' w' x h of-whom forms enough in
        let y : Left key (length slots) l more = later_told key slots w r slots' w' x h enough l more (follow_list (later_fair key slots w r slots' w' x h enough) f) in
        (joined (take r.count slots') l (after key Sized) (length slots) g.1 y.0, joined_all (take r.count slots') l (after key Sized) (length slots) g.1 more y.1)

    -- Whoever follows them to the end has exactly the pairs that are asked for. [MP7]
    pub follow_exact : {n : ℕ} {key : Key} {l : List Pair} → InRange key a.threshold big → Follow a o P Q big n key l false → (v : Pair) → Memᴰ v l ↔ Belongs a o P Q big key v
    follow_exact {key = key} h f v = subst (λ (x : List Pair). Memᴰ v x ↔ Belongs a o P Q big key v) (sym ((follow_list h f).1.0 refl)) (pairs_exact key v)

    -- From the start, to the greatest size, it is the list of the terms, each pair once. [MP3, MP7]
    pub follow_whole : {n : ℕ} {l : List Pair} → a.threshold ≤ last_threshold → big ≡ last_largest → Follow a o P Q big n start l false → l ≡ list_for a o (points_of P) (points_of Q)
    follow_whole t e f =
        (follow_list (record { q_in = omega arith; p_in = omega arith; fair = t; fits = omega (arith, e) }) f).1.0 refl ∙ after_all start Sized sized_ascends ∙ pairs_whole e forms

    -- It does not go on for ever: as long as more follow, each call has stored a pair at least. [MP7]
    pub follow_ends : {n : ℕ} {key : Key} {l : List Pair} {more : Bool} → InRange key a.threshold big → Follow a o P Q big n key l more → more ≡ true → n ≤ length l
    follow_ends h (calls key slots w r slots' w' some enough x) e =
        let g = pairs_given key slots w r slots' w' x h of-whom forms enough in
        omega (arith, some, ap length g.1, length-take (length slots) (after key Sized), g.2.0 e)
    follow_ends {more = more} h (again {n} {l} key slots w r slots' w' some enough x f) e =
        let g = pairs_given key slots w r slots' w' x h of-whom forms enough in
        let fair = later_fair key slots w r slots' w' x h enough in
        let y : Left key (length slots) l more = later_told key slots w r slots' w' x h enough l more (follow_list fair f) in
        omega (arith, some, ap length g.1, length-take (length slots) (after key Sized), length-append (take r.count slots') l, full (length slots) (after key Sized) l more y.0 y.1 e, follow_ends fair f e)
      where
        -- where something is left the slots were full
        full : (m : ℕ) (t l : List Pair) (more : Bool) → l ≡ take (length l) (drop m t) → ((more ≡ false) ↔ (l ≡ drop m t)) → more ≡ true → m < length t
        full m t l more f z e =
            ⊎_elim
            (λ (g : ltb m (length t) ≡ true). ltb-true m (length t) g)
            (λ (g : ltb m (length t) ≡ false). absurd (true≢false (sym e ∙ z.1 (f ∙ take_all (length l) (drop m t) (omega (arith, length-drop m t, ltb-false m (length t) g))))))
            (decide (ltb m (length t)))

  -- ---- how many there are

  module _ (w : List ℕ) (r : Counted) (w' : List ℕ) (answers : NumberAnswers a o P Q big w r w') (fair : a.threshold ≤ last_threshold) (fits : big ≤ last_largest) (of-whom : Whose a.contractor o (points Q)) (forms : grid_no a.grid P Q ≡ 0) (enough : need P ≤ length w) where
    -- "the number of pairs of such a list": of all of them, from the start [MP8, MP10]
    pub count_tells : (r.number ≡ 0) × (r.count ≡ length Sized) × (r.count ≡ length (after start Sized))
    unfolding count_no own_count_no threshold_no largest_no first given count_answer own_count_answer count_given
    count_tells =
        let z = go a.own refl answers in
        (z.0, z.1, z.1 ∙ ap length (sym (after_all start Sized sized_ascends)))
      where
        go : (k : Bool) → a.own ≡ k → CountOfKind k a o P Q big w r w' → (r.number ≡ 0) × (r.count ≡ length Sized)
        go false e x =
            let nr : count_no P Q o (which_of a big) (length w) ≡ 0 = rw (p_opens, q_opens, contractor_fits a.contractor of-whom.whose, of-whom.bytes, forms, le-leb a.threshold last_threshold fair, le-ltb last_largest big fits, bits_enough (need P) (length w) enough) in
            let is = x.promised.0 ∙ answer_given (count_given big (of_kind false a) o P Q) count_refused (count_no P Q o (which_of a big) (length w)) nr in
            (ap (λ (c : Counted). c.number) is, ap (λ (c : Counted). c.count) is ∙ ap (λ (b : Terms). length (list_to big b o (points_of P) (points_of Q))) (kind_of a false e))
        go true e x =
            let nr : own_count_no P big a.grid (length w) ≡ 0 = rw (p_opens, subst (λ (R : List ℤ). grid_no a.grid P R ≡ 0) (sym x.0) forms, le-ltb last_largest big fits, bits_enough (need P) (length w) enough) in
            let is = x.4.promised.0 ∙ answer_given (count_given big (alone_by a.grid) [] P P) count_refused (own_count_no P big a.grid (length w)) nr in
            (ap (λ (c : Counted). c.number) is, ap (λ (c : Counted). c.count) is ∙ ap₂ (λ (R : List ℤ) (b : List ℕ). length (list_to big (alone_by a.grid) b (points_of P) (points_of R))) x.0 (sym x.3) ∙ ap (λ (b : Terms). length (list_to big b o (points_of P) (points_of Q))) (λ i. record { threshold = sym x.1 i; contractor = sym x.2 i; own = sym e i; grid = a.grid }))

    -- "so that a caller can lend enough": whoever lends so many slots gets all pairs from the start, in all of them, and nothing follows [MP8]
    pub count_enough : (slots : List Pair) → length slots ≡ r.count → (v : List ℕ) → need P ≤ length v → (m : Many) (slots' : List Pair) (v' : List ℕ) → ManyAnswers a o P Q start big slots v m slots' v'
        → (m.count ≡ r.count) × (take m.count slots' ≡ Sized) × (m.more ≡ false)
    count_enough slots long v lent m slots' v' x =
        let h : InRange start a.threshold big = record { q_in = omega arith; p_in = omega arith; fair = fair; fits = fits } in
        let g = pairs_given start slots v m slots' v' x h of-whom forms lent in
        let all = after_all start Sized sized_ascends in
        let as_many : length slots ≡ length (after start Sized) = long ∙ count_tells.2 in (
          omega (arith, g.0, as_many, long),
          g.1 ∙ ap (take (length slots)) all ∙ take_all (length slots) Sized (omega (arith, long, count_tells.1)),
          ends m.more refl (λ e. omega (arith, g.2.0 e, as_many)),
        )
      where
        ends : (t : Bool) → m.more ≡ t → (m.more ≡ true → ⊥) → m.more ≡ false
        ends true e ne = absurd (ne e)
        ends false e ne = e

-- "It depends on the points alone": whatever the forms, the editions, the orders and the trees of two pairs of sheets; of any terms. [MP10]
pub pairs_by_points : (P P' Q Q' : List ℤ) → WellFormed P → WellFormed P' → WellFormed Q → WellFormed Q' → points_of P ≡ points_of P' → points_of Q ≡ points_of Q' → (a : Terms) (o : List ℕ) (big : ℕ) (key : Key) (slots : List Pair)
    (w : List ℕ) (r : Many) (slots' : List Pair) (w' : List ℕ) → ManyAnswers a o P Q key big slots w r slots' w' → (v : List ℕ) (m : Many) (slots'' : List Pair) (v' : List ℕ) → ManyAnswers a o P' Q' key big slots v m slots'' v'
    → r.number ≡ 0 → m.number ≡ 0 → (r ≡ m) × (slots' ≡ slots'')
pairs_by_points P P' Q Q' p p' q q' ep eq a o big key slots w r slots' w' x v m slots'' v' y fine fine' =
    let s = many_answered P Q p q a o big key slots w r slots' w' x fine in
    let t = many_answered P' Q' p' q' a o big key slots v m slots'' v' y fine' in
    let same : list_to big a o (points_of P) (points_of Q) ≡ list_to big a o (points_of P') (points_of Q') = ap₂ (list_to big a o) ep eq in
    (s.0 ∙ ap (λ (l : List Pair). many_given (length slots) (after key l)) same ∙ sym t.0, s.1 ∙ ap (λ (l : List Pair). stored slots (after key l)) same ∙ sym t.1)

-- ---- the self join of one sheet: its calls answer as those of its terms, of the sheet in both places, so all that is said above holds of them

-- [MP9]
pub own_many : (S : List ℤ) (key : Key) (big : ℕ) (g : Bool) (slots : List Pair) (w : List ℕ) (r : Many) (slots' : List Pair) (w' : List ℕ) → OwnPairsAnswers S key big g slots w r slots' w'
    → ManyAnswers (alone_by g) [] S S key big slots w r slots' w'
own_many S key big g slots w r slots' w' x = (refl, refl, refl, refl, x)

-- [MP9]
pub own_number_of : (S : List ℤ) (big : ℕ) (g : Bool) (w : List ℕ) (r : Counted) (w' : List ℕ) → OwnCountAnswers S big g w r w' → NumberAnswers (alone_by g) [] S S big w r w'
own_number_of S big g w r w' x = (refl, refl, refl, refl, x)
