-- What a check finds of one sheet, and of two: its number is the sheets', and with 0 the sheets open and the counts are theirs.
-- Assumes nothing.
use Rattle.std.specs.Prelude.{Result, Ok, Err, IsErrAnd, MatchResult}
use mathlib.Core.Path.{◌≡◌, refl, sym, ap, subst, ◌∙◌}
use mathlib.Core.List.{List, [], ◌∷◌}
use Prim.Native.Nat.{ℕ, ◌≤◌}
use lib.IntN.{ℤ}
use lib.ListN.{length}
use Rattle.words.specs.First.{first}
use Rattle.words.proofs.FirstLaws.{none_applies, first_passes, first_stops, first_last, first_front, answer_given, answer_refused, answer_number}
use Rattle.sheet.specs.Layout.{points, nodes}
use Rattle.sheet.specs.Open.{sheet_no, Opens}
use Rattle.sheet.proofs.SheetLaws.{sheet_facts, sheet_long}
use Rattle.ring.specs.Numbers.{sheets_no}
use Rattle.ring.specs.Answers.{head_of, Heads, heads_opened, heads_shut, heads_of}
use Rattle.ring.specs.declared.Head.{Head}

-- the number that `?` hands on
pub handed_on : {T : Type 0} (r : Result T ℕ) (k : ℕ) (P : T → Type 0) (Q : ℕ → Type 0) → IsErrAnd r (λ n. n ≡ k) → Q k → MatchResult r P Q
handed_on (Ok x) k P Q h q = absurd h
handed_on (Err n) k P Q h q = subst Q (sym h) q

pub handed_as : {T : Type 0} (r : Result T ℕ) (k : ℕ) → IsErrAnd r (λ n. n ≡ k) → r ≡ Err k
handed_as (Ok x) k h = absurd h
handed_as (Err n) k h = ap Err h

-- a sheet has its trailer
pub long : (w : List ℤ) → sheet_no w ≡ 0 → 6 ≤ length w
long w e = sheet_long w e

abbrev found : List ℤ → Head
found w = record { number = 0; len = length w; n = points w; m = nodes w }

abbrev shut : ℕ → Head
shut k = record { number = k; len = 0; n = 0; m = 0 }

-- the head of a sheet, and of words that are none
pub head_found : (w : List ℤ) → sheet_no w ≡ 0 → found w ≡ head_of w
unfolding head_of
head_found w e = sym (answer_given (found w) shut _ e)

pub head_shut : (w : List ℤ) (k : ℕ) → sheet_no w ≡ k → (k ≡ 0 → ⊥) → shut k ≡ head_of w
unfolding head_of
head_shut w k e ne = sym (answer_refused (found w) shut _ k e ne)

-- the head of a sheet as it opens, and with it the counts
pub head_opened : (w v : List ℤ) (n m : ℕ) → sheet_no w ≡ 0 → v ≡ w → Opens v n m → record { number = 0; len = length w; n = n; m = m } ≡ head_of w
head_opened w v n m e f o =
    let n_is : n ≡ points w = sym o.n_is ∙ ap points f in
    let m_is : m ≡ nodes w = sym o.m_is ∙ ap nodes f in
    (λ t. record { number = 0; len = length w; n = n_is t; m = m_is t }) ∙ head_found w e

pub head_number : (w : List ℤ) (h : Head) → h ≡ head_of w → h.number ≡ sheet_no w
unfolding head_of
head_number w h e = ap (λ (g : Head). g.number) e ∙ answer_number (found w) shut (λ g. g.number) refl (λ k. refl) (sheet_no w)

pub record Headed (w : List ℤ) (h : Head) : Type 0 where
  pub opens : sheet_no w ≡ 0
  pub len_is : h.len ≡ length w
  pub n_is : h.n ≡ points w
  pub m_is : h.m ≡ nodes w
  pub facts : Opens w h.n h.m

pub headed : (w : List ℤ) (h : Head) → h ≡ head_of w → h.number ≡ 0 → Headed w h
headed w h e z =
    let o : sheet_no w ≡ 0 = sym (head_number w h e) ∙ z in
    let f : h ≡ found w = e ∙ sym (head_found w o) in
    record {
      opens = o;
      len_is = ap (λ (g : Head). g.len) f;
      n_is = ap (λ (g : Head). g.n) f;
      m_is = ap (λ (g : Head). g.m) f;
      facts = subst (λ (g : Head). Opens w g.n g.m) (sym f) (sheet_facts w o);
    }

abbrev both : List ℤ → List ℤ → Heads
both P Q = record { number = 0; np = points P; mp = nodes P; nq = points Q; mq = nodes Q }

abbrev neither : ℕ → Heads
neither k = record { number = k; np = 0; mp = 0; nq = 0; mq = 0 }

-- the heads of two sheets, and of words of which one is none
pub heads_both : (P Q : List ℤ) → sheets_no P Q ≡ 0 → both P Q ≡ heads_of P Q
unfolding heads_of
heads_both P Q e = sym (answer_given (both P Q) neither _ e)

pub heads_neither : (P Q : List ℤ) (k : ℕ) → sheets_no P Q ≡ k → (k ≡ 0 → ⊥) → neither k ≡ heads_of P Q
unfolding heads_of
heads_neither P Q k e ne = sym (answer_refused (both P Q) neither _ k e ne)

module _ (P Q : List ℤ) (a : Head) (e : a ≡ head_of P) where
  pub heads_p : (a.number ≡ 0 → ⊥) → neither a.number ≡ heads_of P Q
  unfolding sheets_no
  heads_p ne =
      let n : a.number ≡ sheet_no P = head_number P a e in
      heads_neither P Q a.number (first_stops (sheet_no P) _ (λ z. ne (n ∙ z)) ∙ sym n) ne

  module _ (z : a.number ≡ 0) (b : Head) (f : b ≡ head_of Q) where
    -- with P open the number is Q's
    second : sheets_no P Q ≡ b.number
    unfolding sheets_no
    second = first_passes (sheet_no P) _ (headed P a e z).opens ∙ first_last (sheet_no Q) ∙ sym (head_number Q b f)

    pub heads_q : (b.number ≡ 0 → ⊥) → neither b.number ≡ heads_of P Q
    heads_q ne = heads_neither P Q b.number second ne

    pub heads_open : b.number ≡ 0 → record { number = 0; np = a.n; mp = a.m; nq = b.n; mq = b.m } ≡ heads_of P Q
    heads_open y =
        let g = headed P a e z in
        let h = headed Q b f y in
        (λ t. record { number = 0; np = g.n_is t; mp = g.m_is t; nq = h.n_is t; mq = h.m_is t }) ∙ heads_both P Q (second ∙ y)

-- the heads of two sheets as they open one by one
module _ (P Q : List ℤ) where
  pub heads_shut_p : (k : ℕ) → k ≡ sheet_no P → (k ≡ 0 → ⊥) → heads_shut k ≡ heads_of P Q
  heads_shut_p k e ne = heads_p P Q (shut k) (head_shut P k (sym e) ne) ne

  pub heads_shut_q : sheet_no P ≡ 0 → (k : ℕ) → k ≡ sheet_no Q → (k ≡ 0 → ⊥) → heads_shut k ≡ heads_of P Q
  heads_shut_q o k e ne = heads_q P Q (found P) (head_found P o) refl (shut k) (head_shut Q k (sym e) ne) ne

  pub heads_opened_both : (p q : List ℤ) (np mp nq mq : ℕ) → sheet_no P ≡ 0 → p ≡ P → Opens p np mp → sheet_no Q ≡ 0 → q ≡ Q → Opens q nq mq → heads_opened np mp nq mq ≡ heads_of P Q
  heads_opened_both p q np mp nq mq a b c d e f = heads_open P Q _ (head_opened P p np mp a b c) refl _ (head_opened Q q nq mq d e f) refl

pub heads_number : (P Q : List ℤ) (h : Heads) → h ≡ heads_of P Q → h.number ≡ sheets_no P Q
unfolding heads_of
heads_number P Q h e = ap (λ (g : Heads). g.number) e ∙ answer_number (both P Q) neither (λ g. g.number) refl (λ k. refl) (sheets_no P Q)

-- two sheets that open one by one
pub both_open : (P Q : List ℤ) → sheets_no P Q ≡ 0 → (sheet_no P ≡ 0) × (sheet_no Q ≡ 0)
unfolding sheets_no
both_open P Q e = let z = (none_applies _).0 e in (z 0, z 1)

pub sheets_both : (P Q : List ℤ) → sheet_no P ≡ 0 → sheet_no Q ≡ 0 → sheets_no P Q ≡ 0
unfolding sheets_no
sheets_both P Q p q = first_passes (sheet_no P) _ p ∙ first_last (sheet_no Q) ∙ q

pub record HeadedBoth (P Q : List ℤ) (h : Heads) : Type 0 where
  pub opens : sheets_no P Q ≡ 0
  pub np_is : h.np ≡ points P
  pub nq_is : h.nq ≡ points Q
  pub p_opens : Opens P (points P) (nodes P)
  pub p_facts : Opens P h.np h.mp
  pub q_facts : Opens Q h.nq h.mq

pub headed_both : (P Q : List ℤ) (h : Heads) → h ≡ heads_of P Q → h.number ≡ 0 → HeadedBoth P Q h
headed_both P Q h e z =
    let o : sheets_no P Q ≡ 0 = sym (heads_number P Q h e) ∙ z in
    let f : h ≡ both P Q = e ∙ sym (heads_both P Q o) in
    let s = both_open P Q o in
    record {
      opens = o;
      np_is = ap (λ (g : Heads). g.np) f;
      nq_is = ap (λ (g : Heads). g.nq) f;
      p_opens = sheet_facts P s.0;
      p_facts = subst (λ (g : Heads). Opens P g.np g.mp) (sym f) (sheet_facts P s.0);
      q_facts = subst (λ (g : Heads). Opens Q g.nq g.mq) (sym f) (sheet_facts Q s.1);
    }

-- the number of a call on two sheets: theirs, and where they open what comes after
pub sheets_open : (P Q : List ℤ) (rest : List ℕ) → sheets_no P Q ≡ 0 → first (sheet_no P ∷ sheet_no Q ∷ rest) ≡ first rest
sheets_open P Q rest e = let s = both_open P Q e in first_passes (sheet_no P) _ s.0 ∙ first_passes (sheet_no Q) rest s.1

module _ (P Q : List ℤ) (h : Heads) (rest : List ℕ) (e : h ≡ heads_of P Q) where
  pub sheets_stop : (h.number ≡ 0 → ⊥) → first (sheet_no P ∷ sheet_no Q ∷ rest) ≡ h.number
  unfolding sheets_no
  sheets_stop ne =
      let n : h.number ≡ sheets_no P Q = heads_number P Q h e in
      first_front (sheet_no P ∷ sheet_no Q ∷ []) rest ∙ first_stops (sheets_no P Q) rest (λ z. ne (n ∙ z)) ∙ sym n

  pub sheets_pass : h.number ≡ 0 → first (sheet_no P ∷ sheet_no Q ∷ rest) ≡ first rest
  sheets_pass z = sheets_open P Q rest (sym (heads_number P Q h e) ∙ z)
