-- The filter walk's answers, and the lent words after them.
-- Assumes nothing.
use mathlib.Core.Path.{◌≡◌, sym, ap, ◌∙◌}
use mathlib.Core.List.{List, ◌++◌}
use Prim.Native.Nat.{ℕ, ◌<◌, ◌≤◌}
use native.Mathlib.Omega.{arith}
use lib.IntN.{ℤ}
use lib.ListN.{length, take, drop}
use Rattle.words.proofs.FirstLaws.{first_passes, first_stops, first_last, answer_given, answer_refused}
use Rattle.plane.specs.declared.Spot.{Spot}
use Rattle.sheet.specs.Layout.{points}
use Rattle.sheet.specs.Places.{spot_of}
use Rattle.bits.specs.Set.{card, words_for}
use Rattle.bits.proofs.LentLaws.{words_enough, part_long}
use Rattle.walk.specs.FilterWalk.{Kept, filter_kept}
use Rattle.walk.proofs.Meaning.{kept_words}
use Rattle.ring.specs.Lent.{need, bits_no}
use Rattle.ring.specs.Numbers.{filter_no}
use Rattle.ring.specs.Answers.{Heads, heads_of, filtered_to, unfiltered, kept_for, filtered, filtered_bits}
use Rattle.ring.specs.declared.Filtered.{Filtered}
use Rattle.ring.proofs.NumberLaws.{position_past, ring_position_in}
use Rattle.ring.proofs.LentLaws.{bits_short, bits_enough, kept_refused, kept_given}
use Rattle.ring.proofs.HeadLaws.{headed_both, sheets_stop, sheets_pass}

-- the numbers beside a kept set
pub filter_told : (k : Kept) (b : List ℕ) (c o : ℕ) → b ≡ k.bits → o ≡ k.opened → c ≡ card b → record { number = 0; count = c; opened = o } ≡ filtered_to k
unfolding filtered_to
filter_told k b c o e f g = λ i. record { number = 0; count = (g ∙ ap card e) i; opened = f i }

module _ (P Q : List ℤ) (j : ℕ) (ws : List ℕ) where
  abbrev Answers : Filtered → List ℕ → Type 0
  Answers r ws₁ = (r ≡ filtered P Q j (length ws)) × (ws₁ ≡ filtered_bits P Q j ws)

  -- refused, the number and zeros, and the words as they were
  pub filter_refused : (k : ℕ) → filter_no P Q j (length ws) ≡ k → (k ≡ 0 → ⊥) → Answers (unfiltered k) ws
  unfolding filtered filtered_bits
  filter_refused k e ne = (sym (answer_refused _ unfiltered _ k e ne), kept_refused ws _ _ k e ne)

  -- served, what the walk kept, in the words and in numbers
  pub filter_given : filter_no P Q j (length ws) ≡ 0 → Answers (filtered_to (kept_for P Q j)) ((kept_for P Q j).bits ++ drop (length (kept_for P Q j).bits) ws)
  unfolding filtered filtered_bits
  filter_given e = (sym (answer_given _ unfiltered _ e), kept_given ws _ _ e)

  -- from what the check found
  module _ (h : Heads) (e : h ≡ heads_of P Q) where
    pub filter_sheets : (h.number ≡ 0 → ⊥) → Answers (unfiltered h.number) ws
    unfolding filter_no
    filter_sheets ne = filter_refused h.number (sheets_stop P Q h _ e ne) ne

    module _ (z : h.number ≡ 0) where
      pub filter_past : h.nq ≤ j → Answers (unfiltered 9) ws
      unfolding filter_no
      filter_past past =
          let nine = position_past Q j (omega (arith, (headed_both P Q h e z).nq_is)) in
          filter_refused 9 (sheets_pass P Q h _ e z ∙ first_stops _ _ (λ x. omega (arith, x, nine)) ∙ nine) (λ y. omega arith)

      module _ (within : j < h.nq) (w : ℕ) (as_many : w ≡ words_for h.np) where
        needed : w ≡ need P
        needed = as_many ∙ ap words_for (headed_both P Q h e z).np_is

        after : filter_no P Q j (length ws) ≡ bits_no (need P) (length ws)
        unfolding filter_no
        after =
            let o = headed_both P Q h e z in
            sheets_pass P Q h _ e z ∙ first_passes _ _ (ring_position_in Q j (omega (arith, o.nq_is))) ∙ first_last _

        pub filter_short : length ws < w → Answers (unfiltered 24) ws
        filter_short short = filter_refused 24 (after ∙ bits_short (need P) (length ws) (omega (arith, needed))) (λ y. omega arith)

        -- what the walk over P left for the place of q on the first words
        pub filter_walks : w ≤ length ws → (a : Spot) → a ≡ spot_of Q j → (r : Filtered) → r ≡ filtered_to (filter_kept (length (take w ws)) P a) → (b : List ℕ)
            → b ≡ (filter_kept (length (take w ws)) P a).bits → Answers r (b ++ drop w ws)
        filter_walks fits a at_is r r-is b b-is =
            let o = headed_both P Q h e z in
            let long : length (take w ws) ≡ need P = part_long ws w fits ∙ needed in
            let k : filter_kept (length (take w ws)) P a ≡ kept_for P Q j = ap (λ (n : ℕ). filter_kept n P a) long ∙ ap (filter_kept (need P) P) at_is in
            let s : b ≡ (kept_for P Q j).bits = b-is ∙ ap (λ (f : Kept). f.bits) k in
            let l : w ≡ length (kept_for P Q j).bits = needed ∙ sym (kept_words (need P) P (spot_of Q j) o.p_opens (words_enough (points P))) in
            let g = filter_given (after ∙ bits_enough (need P) (length ws) (omega (arith, needed))) in
            (r-is ∙ ap filtered_to k ∙ g.0, (λ i. s i ++ drop (l i) ws) ∙ g.1)
