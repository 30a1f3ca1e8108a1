-- The question for a chamber's partners: its answers by number, and what the promise says of them.
--
--     ring_partners_no        the number is the first that applies; partners_refused_lem: refused, all else is zero
--     partners_served    with sheets that open, the id of a chamber and a t from 1 to 1,000, the answer is 0, the count and the yes
--     ring_partners_once      one question, one answer
-- Assumes nothing.
use mathlib.Core.Path.{◌≡◌, refl, sym, ap, ◌∙◌}
use mathlib.Core.Bool.{true, not}
use mathlib.Core.List.{List, [], ◌∷◌, ◌++◌}
use Prim.Native.Nat.{ℕ, ◌≤◌, ◌<◌}
use native.Mathlib.Omega.{arith}
use lib.Dec.{eqb}
use lib.IntN.{ℤ}
use lib.ListN.{length, take, drop}
use borrow.Author.Tests.{eq-eqb, eqb-true, lt-ltb, le-ltb, le-leb}
use Rattle.words.specs.First.{given, first}
use Rattle.words.proofs.FirstLaws.{first_passes, first_stops, first_last, given_no, answer_given, answer_refused, answer_number}
use Rattle.words.specs.All.{first_b}
use Rattle.words.proofs.AllLaws.{first_hit, first_in}
use Rattle.bits.specs.Set.{none, words_for, wiped}
use Rattle.bits.proofs.LentLaws.{part_wiped}
use Rattle.plane.specs.Point.{id_at}
use Rattle.sheet.specs.Places.{points_of}
use Rattle.sheet.proofs.PointsLaws.{length_points}
use Rattle.list.specs.Pairs.{chamber_pairs}
use Rattle.list.specs.Pages.{last_threshold}
use Rattle.list.specs.RingList.{ring_list, partners_of}
use Rattle.list.proofs.TermsLaws.{partners_listed}
use Rattle.sheet.specs.Find.{position_of}
use Rattle.join.specs.Threshold.{smaller}
use Rattle.sheet.proofs.FindLaws.{has}
use Rattle.join.proofs.Meaning.{points_rise}
use Rattle.ring.specs.declared.Partnered.{Partnered}
use Rattle.ring.specs.Numbers.{sheets_no}
use Rattle.ring.specs.Answers.{Heads, heads_of}
use Rattle.ring.specs.Lent.{need, bits_no}
use Rattle.ring.specs.Partners.{id_no, least_no, partners_no, partners_count, partners_given, partners_refused, partners_answer, partners_bits}
use Rattle.ring.proofs.LentLaws.{bits_short, bits_enough, wiped_refused, wiped_given}
use Rattle.ring.proofs.HeadLaws.{both_open, headed_both, sheets_stop, sheets_pass}

-- ---- the answers

module _ (P Q : List ℤ) (id t len : ℕ) where
  -- refused: its number, and zeros
  pub partners_refused_lem : (k : ℕ) → partners_no P Q id t len ≡ k → (k ≡ 0 → ⊥) → partners_answer P Q id t len ≡ partners_refused k
  unfolding partners_answer
  partners_refused_lem k e ne = answer_refused _ partners_refused _ k e ne

  pub partners_answered : partners_no P Q id t len ≡ 0 → partners_answer P Q id t len ≡ partners_given P Q id t
  unfolding partners_answer
  partners_answered e = answer_given _ partners_refused _ e

  -- one question, one answer
  pub ring_partners_once : (r r' : Partnered) → r ≡ partners_answer P Q id t len → r' ≡ partners_answer P Q id t len → r ≡ r'
  ring_partners_once r r' e f = e ∙ sym f

  -- No other question is refused: sheets that open, the id of a chamber, a t in range and as many words as the points of P need are served.
  pub partners_served : sheets_no P Q ≡ 0 → (j : ℕ) → j < length (points_of Q) → id_at (points_of Q) j ≡ id → 1 ≤ t → t ≤ last_threshold → need P ≤ len → partners_answer P Q id t len ≡ partners_given P Q id t
  unfolding partners_no id_no least_no position_of first given
  partners_served opens j h e a b c =
      let s = both_open P Q opens in
      let known = first_in (has Q id) (length (points_of Q)) j h (eq-eqb (id_at (points_of Q) j) id e) in
      partners_answered
      (rw (s.0, s.1, lt-ltb (first_b (length (points_of Q)) (has Q id)) (length (points_of Q)) known, le-leb 1 t a, le-leb t last_threshold b, bits_enough (need P) len c))

  -- the number is the first that applies
  pub ring_partners_no : (partners_answer P Q id t len).number ≡ partners_no P Q id t len
  unfolding partners_answer partners_given partners_refused
  ring_partners_no = answer_number (partners_given P Q id t) partners_refused (λ r. r.number) refl (λ k. refl) (partners_no P Q id t len)

-- what a question answers and leaves in the words lent
abbrev pub PartnersDone : List ℤ → List ℤ → ℕ → ℕ → List ℕ → Partnered → List ℕ → Type 0
PartnersDone P Q id t ws r ws₁ = (r ≡ partners_answer P Q id t (length ws)) × (ws₁ ≡ partners_bits P Q id t ws)

module _ (P Q : List ℤ) (id t : ℕ) (ws : List ℕ) (h : Heads) (e : h ≡ heads_of P Q) (r : Partnered) where
  abbrev number : ℕ
  number = partners_no P Q id t (length ws)

  stops : (k : ℕ) → number ≡ k → (k ≡ 0 → ⊥) → r ≡ partners_refused k → PartnersDone P Q id t ws r ws
  unfolding partners_bits
  stops k x ne f = (f ∙ sym (partners_refused_lem P Q id t (length ws) k x ne), wiped_refused ws _ _ k x ne)

  pub partners_sheets : (h.number ≡ 0 → ⊥) → r ≡ partners_refused h.number → PartnersDone P Q id t ws r ws
  unfolding partners_no
  partners_sheets ne f = stops h.number (sheets_stop P Q h _ e ne) ne f

  module _ (z : h.number ≡ 0) (j : ℕ) (at_j : j ≡ position_of (points_of Q) id) where
    as_many : length (points_of Q) ≡ h.nq
    as_many = length_points Q ∙ sym (headed_both P Q h e z).nq_is

    -- no chamber has the id
    pub partners_unknown : h.nq ≤ j → r ≡ partners_refused 20 → PartnersDone P Q id t ws r ws
    unfolding partners_no id_no first given
    partners_unknown past f =
        let s = both_open P Q (headed_both P Q h e z).opens in
        stops 20 (rw (s.0, s.1, le-ltb (position_of (points_of Q) id) (length (points_of Q)) (omega (arith, as_many)))) (λ x. omega arith) f

    module _ (here : j < h.nq) (k : ℕ) (d : k ≡ least_no t) where
      after : number ≡ first (k ∷ bits_no (need P) (length ws) ∷ [])
      unfolding partners_no id_no
      after =
          sheets_pass P Q h _ e z
          ∙ first_passes _ _ (given_no 20 (ap not (lt-ltb (position_of (points_of Q) id) (length (points_of Q)) (omega (arith, as_many)))))
          ∙ ap (λ (n : ℕ). first (n ∷ bits_no (need P) (length ws) ∷ [])) (sym d)

      pub partners_least : (k ≡ 0 → ⊥) → r ≡ partners_refused k → PartnersDone P Q id t ws r ws
      partners_least ne f = stops k (after ∙ first_stops k _ ne) ne f

      module _ (y : k ≡ 0) (w : ℕ) (words : w ≡ words_for h.np) where
        needed : w ≡ need P
        needed = words ∙ ap words_for (headed_both P Q h e z).np_is

        last : number ≡ bits_no (need P) (length ws)
        last = after ∙ first_passes k _ y ∙ first_last _

        pub partners_short : length ws < w → r ≡ partners_refused 24 → PartnersDone P Q id t ws r ws
        partners_short short f = stops 24 (last ∙ bits_short (need P) (length ws) (omega (arith, needed))) (λ x. omega arith) f

        pub partners_counted : w ≤ length ws → (c : ℕ) → c ≡ smaller t (partners_of (points_of P) (points_of Q) j) → r ≡ record { number = 0; count = c; enough = eqb c t }
            → (b : List ℕ) → b ≡ none (length (take w ws)) → PartnersDone P Q id t ws r (b ++ drop w ws)
        unfolding partners_given partners_count partners_bits position_of
        partners_counted fits c ec f b g =
            let no : number ≡ 0 = last ∙ bits_enough (need P) (length ws) (omega (arith, needed)) in
            let o = headed_both P Q h e z in
            let hit : has Q id (first_b (length (points_of Q)) (has Q id)) ≡ true = first_hit (has Q id) (length (points_of Q)) (omega (arith, as_many)) in
            let named : id_at (points_of Q) j ≡ id = ap (id_at (points_of Q)) at_j ∙ eqb-true _ id hit in
            let many : c ≡ smaller t (length (chamber_pairs id (ring_list (points_of P) (points_of Q)))) = ec ∙ ap (smaller t) (partners_listed (points_of P) (points_of Q) (points_rise o.p_facts) (points_rise o.q_facts) j (omega (arith, as_many)) ∙ ap (λ (i : ℕ). length (chamber_pairs i (ring_list (points_of P) (points_of Q)))) named) in
            (f ∙ (λ i. record { number = 0; count = many i; enough = eqb (many i) t }) ∙ sym (partners_answered P Q id t (length ws) no), part_wiped ws b w fits g ∙ ap (λ (n : ℕ). wiped n ws) needed ∙ wiped_given ws (need P) _ no)
