-- The numbers of the calls: what is asked, and then the words lent.
-- Assumes nothing.
use mathlib.Core.Path.{◌≡◌, sym, ap, subst, ◌∙◌}
use mathlib.Core.Bool.{Bool, false}
use mathlib.Core.List.{List, [], ◌∷◌}
use Prim.Native.Nat.{ℕ, ◌≤◌, ◌<◌}
use lib.IntN.{ℤ}
use Rattle.words.specs.First.{first}
use Rattle.words.proofs.FirstLaws.{first_passes, first_stops, first_last, first_front, none_applies}
use Rattle.sheet.specs.Layout.{points}
use Rattle.sheet.specs.Open.{Opens, sheet_no}
use Rattle.bits.specs.Set.{words_for}
use Rattle.list.specs.Pages.{size_no, contractor_no, owners_no}
use Rattle.list.proofs.PageLaws.{size_fits}
use Rattle.ring.specs.Lent.{need, bits_no}
use Rattle.ring.specs.Numbers.{grid_no}
use Rattle.ring.proofs.LentLaws.{bits_short, bits_enough}
use Rattle.many.specs.Many.{largest_no}
use Rattle.many.proofs.CheckLaws.{first_without, many_undivided, no_bytes}
use Rattle.ranked.specs.declared.Question.{Question}
use Rattle.ranked.specs.Busiest.{asked_no, busy_no, pump_no}
use Rattle.ranked.specs.Ranks.{Ready}

-- ---- two sheets, and what is asked of them

module _ (P Q : List ℤ) (o : List ℕ) (a : Question) where
  pub asked_p : (k : ℕ) → k ≡ sheet_no P → (k ≡ 0 → ⊥) → k ≡ asked_no P Q o a
  unfolding asked_no
  asked_p k e ne = e ∙ sym (first_stops (sheet_no P) _ (λ z. ne (e ∙ z)))

  module _ (z : sheet_no P ≡ 0) where
    pub asked_q : (k : ℕ) → k ≡ sheet_no Q → (k ≡ 0 → ⊥) → k ≡ asked_no P Q o a
    unfolding asked_no
    asked_q k e ne = e ∙ sym (first_passes (sheet_no P) _ z ∙ first_stops (sheet_no Q) _ (λ x. ne (e ∙ x)))

    module _ (y : sheet_no Q ≡ 0) (q : List ℤ) (q_is : q ≡ Q) (nq mq : ℕ) (f : Opens q nq mq) (r : ℕ)
        (d : r ≡ first (contractor_no false a.contractor ∷ owners_no a.contractor o nq ∷ grid_no a.grid P Q ∷ size_no a.k ∷ largest_no a.largest ∷ [])) where
      pub asked_rest : r ≡ asked_no P Q o a
      unfolding asked_no
      asked_rest =
          d ∙ ap (λ (n : ℕ). first (contractor_no false a.contractor ∷ owners_no a.contractor o n ∷ grid_no a.grid P Q ∷ size_no a.k ∷ largest_no a.largest ∷ [])) (sym f.n_is ∙ ap points q_is)
          ∙ sym (first_passes (sheet_no P) _ z ∙ first_passes (sheet_no Q) _ y)

      pub asked_ready : r ≡ 0 → (p : List ℤ) → p ≡ P → (np mp : ℕ) → Opens p np mp → Ready P Q (record { n = np; m = mp }) (record { n = nq; m = mq }) a.k
      asked_ready x p p_is np mp e =
          let s = size_fits a.k ((none_applies _).0 (sym d ∙ x) 3) in
          record {
            p_opens = subst (λ (w : List ℤ). Opens w np mp) p_is e;
            q_opens = subst (λ (w : List ℤ). Opens w nq mq) q_is f;
            some = s.0;
            most = s.1;
          }

-- ---- then the words lent

busy_number : (P Q : List ℤ) (o : List ℕ) (a : Question) (len : ℕ) → busy_no P Q o a len ≡ first (asked_no P Q o a ∷ bits_no (need P) len ∷ [])
unfolding busy_no asked_no
busy_number P Q o a len =
    first_front
    (sheet_no P ∷ sheet_no Q ∷ contractor_no false a.contractor ∷ owners_no a.contractor o (points Q) ∷ grid_no a.grid P Q ∷ size_no a.k ∷ largest_no a.largest ∷ [])
    (bits_no (need P) len ∷ [])

-- an undivided list has no bytes
pump_number : (P Q : List ℤ) (k big : ℕ) (g : Bool) (len : ℕ) → pump_no P Q k big g len ≡ first (asked_no P Q [] (record { k = k; largest = big; contractor = 2; grid = g }) ∷ bits_no (need Q) len ∷ [])
unfolding pump_no asked_no
pump_number P Q k big g len =
    let two = sheet_no P ∷ sheet_no Q ∷ [] in
    let three = grid_no g P Q ∷ size_no k ∷ largest_no big ∷ [] in
    first_front (sheet_no P ∷ sheet_no Q ∷ grid_no g P Q ∷ size_no k ∷ largest_no big ∷ []) (bits_no (need Q) len ∷ [])
    ∙ ap (λ (n : ℕ). first (n ∷ bits_no (need Q) len ∷ []))
    (sym (first_without two (owners_no 2 [] (points Q) ∷ three) (contractor_no false 2) many_undivided ∙ first_without two three (owners_no 2 [] (points Q)) (no_bytes (points Q))))

pub busy_is : (P Q : List ℤ) (o : List ℕ) (a : Question) (len n : ℕ) → n ≡ asked_no P Q o a → busy_no P Q o a len ≡ first (n ∷ bits_no (need P) len ∷ [])
busy_is P Q o a len n e = busy_number P Q o a len ∙ ap (λ (x : ℕ). first (x ∷ bits_no (need P) len ∷ [])) (sym e)

pub pump_is : (P Q : List ℤ) (k big : ℕ) (g : Bool) (len n : ℕ) → n ≡ asked_no P Q [] (record { k = k; largest = big; contractor = 2; grid = g }) → pump_no P Q k big g len ≡ first (n ∷ bits_no (need Q) len ∷ [])
pump_is P Q k big g len n e = pump_number P Q k big g len ∙ ap (λ (x : ℕ). first (x ∷ bits_no (need Q) len ∷ [])) (sym e)

-- so many words are needed
pub words_need : (w : List ℤ) (n m : ℕ) → Opens w n m → (words : ℕ) → words ≡ words_for n → words ≡ need w
words_need w n m o words e = e ∙ ap words_for (sym o.n_is)

module _ (no n words len : ℕ) (is : no ≡ first (n ∷ bits_no words len ∷ [])) where
  pub lent_stops : (n ≡ 0 → ⊥) → n ≡ no
  lent_stops ne = sym (is ∙ first_stops n _ ne)

  pub lent_short : n ≡ 0 → len < words → 24 ≡ no
  lent_short z h = sym (is ∙ first_passes n _ z ∙ first_last _ ∙ bits_short words len h)

  pub lent_serves : n ≡ 0 → words ≤ len → no ≡ 0
  lent_serves z h = is ∙ first_passes n _ z ∙ first_last _ ∙ bits_enough words len h
