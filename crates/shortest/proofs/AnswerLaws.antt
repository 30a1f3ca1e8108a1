-- The call's answer, number by number, and the words lent after it.
--     short_refused_lem, short_answered                an answer by the call's number
--     short_words_refused, short_words_answered    the words lent by it: as they were; zeros, as many as the points of P need
--     served, short_call_no, short_once            which calls are served; the number of an answer; one input, one answer, and one state of the words
--     short_p, short_q, short_size, short_few      refused, at each return of the code
--     search_asked, short_given_lem                    what the search asks, and the answer that it gives
-- Assumes nothing.
use mathlib.Core.Path.{◌≡◌, refl, sym, ap, ◌∙◌}
use mathlib.Core.List.{List, [], ◌∷◌, ◌++◌}
use Prim.Native.Nat.{ℕ, ◌≤◌, ◌<◌}
use native.Mathlib.Omega.{arith}
use lib.IntN.{ℤ}
use lib.ListN.{length, take, drop}
use Rattle.words.specs.First.{first}
use Rattle.words.proofs.FirstLaws.{first_passes, first_stops, first_last, answer_given, answer_refused, answer_number}
use Rattle.bits.specs.Set.{none, words_for, wiped, Holds}
use Rattle.bits.proofs.LentLaws.{lent_holds, part_long, part_wiped}
use Rattle.sheet.specs.Open.{Opens}
use Rattle.list.specs.Pages.{size_no}
use Rattle.list.proofs.PageLaws.{size_fits, size_taken}
use Rattle.ring.specs.Lent.{need, bits_no}
use Rattle.ring.specs.Numbers.{sheets_no}
use Rattle.ring.specs.Answers.{head_of}
use Rattle.ring.specs.declared.Head.{Head}
use Rattle.ring.proofs.LentLaws.{bits_short, bits_enough, wiped_refused, wiped_given}
use Rattle.ring.proofs.HeadLaws.{headed, heads_p, heads_q, heads_open, heads_number, sheets_open, sheets_stop}
use Rattle.shortest.specs.declared.Shortlist.{Shortlist}
use Rattle.shortest.specs.Answer.{short_no, short_given, short_refused, short_answer, short_bits}

-- ---- by number

module _ (P Q : List ℤ) (k len : ℕ) where
  pub short_refused_lem : (n : ℕ) → short_no P Q k len ≡ n → (n ≡ 0 → ⊥) → short_answer P Q k len ≡ short_refused n
  unfolding short_answer
  short_refused_lem n e ne = answer_refused _ short_refused _ n e ne

  pub short_answered : short_no P Q k len ≡ 0 → short_answer P Q k len ≡ short_given P Q k
  unfolding short_answer
  short_answered e = answer_given _ short_refused _ e

  -- sheets that open, a k from 1 to 16 and as many words as the points of P need are served
  pub served : sheets_no P Q ≡ 0 → 1 ≤ k → k ≤ 16 → need P ≤ len → short_no P Q k len ≡ 0
  unfolding short_no
  served opens a b c = sheets_open P Q _ opens ∙ first_passes (size_no k) _ (size_taken k a b) ∙ first_last _ ∙ bits_enough (need P) len c

  -- the number is the first that applies
  pub short_call_no : (short_answer P Q k len).number ≡ short_no P Q k len
  unfolding short_answer short_given short_refused
  short_call_no = answer_number (short_given P Q k) short_refused (λ r. r.number) refl (λ n. refl) (short_no P Q k len)

-- what a call answers and leaves in the words lent
abbrev pub ShortDone : List ℤ → List ℤ → ℕ → List ℕ → Shortlist → List ℕ → Type 0
ShortDone P Q k ws r ws₁ = (r ≡ short_answer P Q k (length ws)) × (ws₁ ≡ short_bits P Q k ws)

module _ (P Q : List ℤ) (k : ℕ) (ws : List ℕ) where
  abbrev number : ℕ
  number = short_no P Q k (length ws)

  -- refused, the words are as they were
  pub short_words_refused : (number ≡ 0 → ⊥) → short_bits P Q k ws ≡ ws
  unfolding short_bits
  short_words_refused ne = sym (wiped_refused ws (need P) _ _ refl ne)

  -- served, zeros stand in the first of them
  pub short_words_answered : number ≡ 0 → short_bits P Q k ws ≡ wiped (need P) ws
  unfolding short_bits
  short_words_answered e = sym (wiped_given ws (need P) _ e)

  -- one input, one answer, and one state of the words
  pub short_once : (r r' : Shortlist) (t t' : List ℕ) → ShortDone P Q k ws r t → ShortDone P Q k ws r' t' → (r ≡ r') × (t ≡ t')
  short_once r r' t t' a b = (a.0 ∙ sym b.0, a.1 ∙ sym b.1)

  -- ---- at each return

  stops : (n : ℕ) → number ≡ n → (n ≡ 0 → ⊥) → (r : Shortlist) → r ≡ short_refused n → ShortDone P Q k ws r ws
  unfolding short_bits
  stops n e ne r f = (f ∙ sym (short_refused_lem P Q k (length ws) n e ne), wiped_refused ws _ _ n e ne)

  module _ (a : Head) (e : a ≡ head_of P) where
    pub short_p : (a.number ≡ 0 → ⊥) → (r : Shortlist) → r ≡ short_refused a.number → ShortDone P Q k ws r ws
    unfolding short_no
    short_p ne r f = stops a.number (sheets_stop P Q _ _ (heads_p P Q a e ne) ne) ne r f

    module _ (z : a.number ≡ 0) (b : Head) (g : b ≡ head_of Q) where
      pub short_q : (b.number ≡ 0 → ⊥) → (r : Shortlist) → r ≡ short_refused b.number → ShortDone P Q k ws r ws
      unfolding short_no
      short_q ne r f = stops b.number (sheets_stop P Q _ _ (heads_q P Q a e z b g ne) ne) ne r f

      module _ (y : b.number ≡ 0) (n : ℕ) (d : n ≡ size_no k) where
        after : number ≡ first (n ∷ bits_no (need P) (length ws) ∷ [])
        unfolding short_no
        after = sheets_open P Q _ (sym (heads_number P Q _ (heads_open P Q a e z b g y))) ∙ ap (λ (m : ℕ). first (m ∷ bits_no (need P) (length ws) ∷ [])) (sym d)

        pub short_size : (n ≡ 0 → ⊥) → (r : Shortlist) → r ≡ short_refused n → ShortDone P Q k ws r ws
        short_size ne r f = stops n (after ∙ first_stops n _ ne) ne r f

        module _ (x : n ≡ 0) (w : ℕ) (as_many : w ≡ words_for a.n) where
          needed : w ≡ need P
          needed = as_many ∙ ap words_for (headed P a e z).n_is

          last : number ≡ bits_no (need P) (length ws)
          last = after ∙ first_passes n _ x ∙ first_last _

          pub short_few : length ws < w → (r : Shortlist) → r ≡ short_refused 24 → ShortDone P Q k ws r ws
          short_few few r f = stops 24 (last ∙ bits_short (need P) (length ws) (omega (arith, needed))) (λ i. omega arith) r f

          module _ (fits : w ≤ length ws) where
            -- what the search asks, of the first words
            pub search_asked : Opens P a.n a.m × Opens Q b.n b.m × Holds (take w ws) a.n × (1 ≤ k) × (k ≤ 16)
            search_asked =
                let o = (headed P a e z).facts in
                let s = size_fits k (sym d ∙ x) in
                (o, (headed Q b g y).facts, lent_holds (take w ws) a.n (omega (arith, o.n_le)) (part_long ws w fits ∙ as_many), s.0, s.1)

            -- the k shortest pairs, and zeros in the first words
            pub short_given_lem : (r : Shortlist) → r ≡ short_given P Q k → (c : List ℕ) → c ≡ none (length (take w ws)) → ShortDone P Q k ws r (c ++ drop w ws)
            unfolding short_bits
            short_given_lem r f c h =
                let no : number ≡ 0 = last ∙ bits_enough (need P) (length ws) (omega (arith, needed)) in
                (f ∙ sym (short_answered P Q k (length ws) no), part_wiped ws c w fits h ∙ ap (λ (m : ℕ). wiped m ws) needed ∙ wiped_given ws (need P) _ no)
