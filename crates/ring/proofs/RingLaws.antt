-- The ring walk's answers.
-- Assumes nothing.
use Rattle.std.specs.Prelude.{Ok, Err}
use mathlib.Core.Path.{◌≡◌, sym, ap, ◌∙◌}
use mathlib.Core.Bool.{Bool}
use mathlib.Core.List.{List, [], ◌∷◌}
use Prim.Native.Nat.{ℕ, ◌<◌, ◌≤◌}
use native.Mathlib.Omega.{arith}
use lib.IntN.{ℤ}
use Rattle.words.specs.First.{first}
use Rattle.words.proofs.FirstLaws.{first_passes, first_stops, first_last, answer_given, answer_refused}
use Rattle.plane.specs.Profile.{profile_of}
use Rattle.walk.specs.declared.Answer.{Answer}
use Rattle.walk.specs.RingWalk.{pair_walk_by}
use Rattle.ring.specs.Numbers.{grid_no, position_no, ring_no}
use Rattle.ring.specs.Answers.{Heads, heads_of, walked}
use Rattle.ring.proofs.NumberLaws.{position_past, ring_position_in}
use Rattle.ring.proofs.HeadLaws.{headed_both, sheets_stop, sheets_pass}

pub ring_refused : (P Q : List ℤ) (j i : ℕ) (g : Bool) (k : ℕ) → ring_no P Q j i g ≡ k → (k ≡ 0 → ⊥) → Err k ≡ walked P Q j i g
unfolding walked
ring_refused P Q j i g k e ne = sym (answer_refused (Ok (pair_walk_by (profile_of g) P Q j i)) Err _ k e ne)

pub ring_given : (P Q : List ℤ) (j i : ℕ) (g : Bool) (a : Answer) → ring_no P Q j i g ≡ 0 → a ≡ pair_walk_by (profile_of g) P Q j i → Ok a ≡ walked P Q j i g
unfolding walked
ring_given P Q j i g a e f = ap Ok f ∙ sym (answer_given (Ok (pair_walk_by (profile_of g) P Q j i)) Err _ e)

-- from what the check found
module _ (P Q : List ℤ) (j i : ℕ) (g : Bool) (h : Heads) (e : h ≡ heads_of P Q) where
  pub ring_sheets : (h.number ≡ 0 → ⊥) → Err h.number ≡ walked P Q j i g
  unfolding ring_no
  ring_sheets ne = ring_refused P Q j i g h.number (sheets_stop P Q h _ e ne) ne

  module _ (z : h.number ≡ 0) (n : ℕ) (f : n ≡ grid_no g P Q) where
    passed : ring_no P Q j i g ≡ first (grid_no g P Q ∷ position_no Q j ∷ position_no P i ∷ [])
    unfolding ring_no
    passed = sheets_pass P Q h _ e z

    pub ring_forms : (n ≡ 0 → ⊥) → Err n ≡ walked P Q j i g
    ring_forms ne = ring_refused P Q j i g n (passed ∙ first_stops (grid_no g P Q) _ (λ y. ne (f ∙ y)) ∙ sym f) ne

    after : n ≡ 0 → ring_no P Q j i g ≡ first (position_no Q j ∷ position_no P i ∷ [])
    after y = passed ∙ first_passes (grid_no g P Q) _ (sym f ∙ y)

    pub ring_past_q : n ≡ 0 → h.nq ≤ j → Err 9 ≡ walked P Q j i g
    ring_past_q form past =
        let o = headed_both P Q h e z in
        let x : position_no Q j ≡ 9 = position_past Q j (omega (arith, o.nq_is)) in
        ring_refused P Q j i g 9 (after form ∙ first_stops (position_no Q j) _ (λ y. omega (arith, x)) ∙ x) (λ y. omega arith)

    pub ring_past_p : n ≡ 0 → j < h.nq → h.np ≤ i → Err 9 ≡ walked P Q j i g
    ring_past_p form within past =
        let o = headed_both P Q h e z in
        ring_refused P Q j i g 9 (after form ∙ first_passes (position_no Q j) _ (ring_position_in Q j (omega (arith, o.nq_is))) ∙ first_last _ ∙ position_past P i (omega (arith, o.np_is))) (λ y. omega arith)

    pub ring_walks : n ≡ 0 → (a : Answer) → j < h.nq → i < h.np → a ≡ pair_walk_by (profile_of g) P Q j i → Ok a ≡ walked P Q j i g
    ring_walks form a within inside is =
        let o = headed_both P Q h e z in
        ring_given P Q j i g a (after form ∙ first_passes (position_no Q j) _ (ring_position_in Q j (omega (arith, o.nq_is))) ∙ first_last _ ∙ ring_position_in P i (omega (arith, o.np_is))) is
