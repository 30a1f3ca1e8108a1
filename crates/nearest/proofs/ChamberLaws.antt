-- What is found of two sheets and the id of a chamber.
--     seek_start, seek_on, seek_stop, seek_end     the chamber with an id, as it is sought
--     placed_shut, placed_unknown, placed_here      what `placed` answers, number by number
--     Placed, placed_facts      what a call may rely on where the number is 0
-- Assumes nothing.
use mathlib.Core.Path.{◌≡◌, refl, sym, ap, subst, ◌∙◌}
use mathlib.Core.List.{List, [], ◌∷◌}
use Prim.Native.Nat.{ℕ, ◌≤◌, ◌<◌}
use native.Mathlib.Omega.{arith}
use lib.IntN.{ℤ}
use lib.ListN.{length}
use borrow.Author.Tests.{lt-ltb, le-ltb, ltb-true}
use Rattle.words.specs.First.{given, first}
use Rattle.words.proofs.FirstLaws.{none_applies, first_front, first_last, given_held, answer_given, answer_refused, answer_number}
use Rattle.plane.specs.declared.Spot.{Spot}
use Rattle.plane.specs.Rule.{SpotIn}
use Rattle.sheet.specs.Layout.{points, nodes}
use Rattle.sheet.specs.Places.{spot_of, points_of}
use Rattle.sheet.specs.Open.{sheet_no, Opens}
use Rattle.sheet.proofs.PointsLaws.{length_points}
use Rattle.sheet.proofs.SheetLaws.{by_counts}
use Rattle.sheet.proofs.RangeLaws.{spot_in}
use Rattle.ring.specs.Numbers.{sheets_no}
use Rattle.ring.specs.Answers.{Heads, heads_shut, heads_of}
use Rattle.ring.proofs.HeadLaws.{heads_number, sheets_both, headed_both, sheets_open, sheets_stop}
use Rattle.nearest.specs.Nearest.{chamber_no, stands_at, Chamber, placed_at, unplaced_at, chamber_found}
use Rattle.sheet.specs.Find.{position_of}
use Rattle.ring.specs.Partners.{id_no}

-- ---- what is found

abbrev here : List ℤ → List ℤ → ℕ → Chamber
here P Q id = record { number = 0; n = points P; m = nodes P; at = stands_at Q id }

module _ (P Q : List ℤ) (id : ℕ) where
  chamber_refused : (k : ℕ) → chamber_no P Q id ≡ k → (k ≡ 0 → ⊥) → unplaced_at k ≡ chamber_found P Q id
  unfolding chamber_found
  chamber_refused k e ne = sym (answer_refused (here P Q id) unplaced_at _ k e ne)

  chamber_here : chamber_no P Q id ≡ 0 → here P Q id ≡ chamber_found P Q id
  unfolding chamber_found
  chamber_here e = sym (answer_given (here P Q id) unplaced_at _ e)

  pub chamber_number : (c : Chamber) → c ≡ chamber_found P Q id → c.number ≡ chamber_no P Q id
  unfolding chamber_found unplaced_at
  chamber_number c e = ap (λ (g : Chamber). g.number) e ∙ answer_number (here P Q id) unplaced_at (λ g. g.number) refl (λ k. refl) (chamber_no P Q id)

  -- the number of a call for a chamber: its number, and where that is 0 what comes after
  pub chamber_front : (rest : List ℕ) → first (sheet_no P ∷ sheet_no Q ∷ id_no (points_of Q) id ∷ rest) ≡ first (chamber_no P Q id ∷ rest)
  unfolding chamber_no
  chamber_front rest = first_front (sheet_no P ∷ sheet_no Q ∷ id_no (points_of Q) id ∷ []) rest

  -- a known id is that of a chamber
  known : id_no (points_of Q) id ≡ 0 → position_of (points_of Q) id < length (points_of Q)
  unfolding id_no
  known e = let j = position_of (points_of Q) id in let n = length (points_of Q) in ltb-true j n (given_held _ e)

  pub record Placed (c : Chamber) : Type 0 where
    pub no : chamber_no P Q id ≡ 0
    pub n_is : c.n ≡ points P
    pub m_is : c.m ≡ nodes P
    pub at_is : c.at ≡ stands_at Q id
    pub opens : Opens P c.n c.m
    pub within : SpotIn c.at

  pub placed_facts : (c : Chamber) → c ≡ chamber_found P Q id → c.number ≡ 0 → Placed c
  unfolding chamber_no stands_at
  placed_facts c e z =
      let no : chamber_no P Q id ≡ 0 = sym (chamber_number c e) ∙ z in
      let f : c ≡ here P Q id = e ∙ sym (chamber_here no) in
      let each = (none_applies _).0 no in
      let s : sheets_no P Q ≡ 0 = sheets_both P Q (each 0) (each 1) in
      let o = headed_both P Q (heads_of P Q) refl (heads_number P Q (heads_of P Q) refl ∙ s) in
      let j : position_of (points_of Q) id < (heads_of P Q).nq = omega (arith, known (each 2), length_points Q, o.nq_is) in
      record {
        no = no;
        n_is = ap (λ (g : Chamber). g.n) f;
        m_is = ap (λ (g : Chamber). g.m) f;
        at_is = ap (λ (g : Chamber). g.at) f;
        opens = subst (λ (g : Chamber). Opens P g.n g.m) (sym f) (by_counts o.p_facts);
        within = subst (λ (g : Chamber). SpotIn g.at) (sym f) (spot_in o.q_facts (position_of (points_of Q) id) j);
      }

  -- from what the check of both sheets found
  pub placed_shut : (k : ℕ) → heads_shut k ≡ heads_of P Q → (k ≡ 0 → ⊥) → unplaced_at k ≡ chamber_found P Q id
  unfolding chamber_no
  placed_shut k e ne = chamber_refused k (sheets_stop P Q _ _ e ne) ne

  module _ (h : Heads) (e : h ≡ heads_of P Q) (z : h.number ≡ 0) (j : ℕ) (g : j ≡ position_of (points_of Q) id) where
    many : length (points_of Q) ≡ h.nq
    many = length_points Q ∙ sym (headed_both P Q h e z).nq_is

    pub placed_unknown : h.nq ≤ j → unplaced_at 20 ≡ chamber_found P Q id
    unfolding chamber_no id_no given
    placed_unknown past =
        chamber_refused 20 (sheets_open P Q _ (headed_both P Q h e z).opens ∙ first_last _ ∙ (rw (le-ltb (position_of (points_of Q) id) (length (points_of Q)) (omega (arith, many))))) (λ x. omega arith)

    pub placed_here : j < h.nq → (s : Spot) → s ≡ spot_of Q j → placed_at h.np h.mp s ≡ chamber_found P Q id
    unfolding chamber_no id_no given stands_at
    placed_here within s at_j =
        let o = headed_both P Q h e z in
        let m_is : h.mp ≡ nodes P = sym o.p_facts.m_is in
        let v : s ≡ stands_at Q id = at_j ∙ ap (spot_of Q) g in
        (λ t. record { number = 0; n = o.np_is t; m = m_is t; at = v t })
        ∙ chamber_here (sheets_open P Q _ o.opens ∙ first_last _ ∙ (rw (lt-ltb (position_of (points_of Q) id) (length (points_of Q)) (omega (arith, many)))))
