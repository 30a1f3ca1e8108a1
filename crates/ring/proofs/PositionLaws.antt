-- The question for the position of an id: its answers by number, and what an answer means.
--
--     place_holds     where it is served, the record at the position has the id
--     place_served    a sheet that opens and the id of a record of it are served
-- Assumes nothing.
use mathlib.Core.Path.{◌≡◌, refl, sym, ap, ◌∙◌}
use mathlib.Core.Bool.{true, not}
use mathlib.Core.List.{List}
use Prim.Native.Nat.{ℕ, ◌≤◌, ◌<◌}
use native.Mathlib.Omega.{arith}
use lib.IntN.{ℤ}
use lib.ListN.{length}
use borrow.Author.Tests.{eq-eqb, eqb-true, lt-ltb, le-ltb, ltb-true}
use Rattle.words.specs.First.{given, first}
use Rattle.words.specs.All.{first_b}
use Rattle.words.proofs.FirstLaws.{none_applies, first_passes, first_stops, first_last, given_no, given_held, answer_given, answer_refused, answer_number}
use Rattle.words.proofs.AllLaws.{first_hit, first_in}
use Rattle.plane.specs.Point.{id_at}
use Rattle.sheet.specs.Places.{points_of}
use Rattle.sheet.specs.Open.{sheet_no}
use Rattle.sheet.specs.Find.{position_of}
use Rattle.sheet.proofs.PointsLaws.{length_points}
use Rattle.sheet.proofs.FindLaws.{has}
use Rattle.ring.specs.Answers.{head_of}
use Rattle.ring.specs.Partners.{id_no}
use Rattle.ring.specs.Position.{place_no, place_given, place_refused, placed}
use Rattle.ring.specs.declared.Head.{Head}
use Rattle.ring.specs.declared.Placed.{Placed}
use Rattle.ring.proofs.HeadLaws.{head_number, headed}

module _ (w : List ℤ) (id : ℕ) where
  pub place_refused_lem : (k : ℕ) → place_no w id ≡ k → (k ≡ 0 → ⊥) → record { number = k; position = 0 } ≡ placed w id
  unfolding placed place_refused
  place_refused_lem k e ne = sym (answer_refused (place_given w id) place_refused _ k e ne)

  pub place_given_lem : (i : ℕ) → place_no w id ≡ 0 → i ≡ position_of (points_of w) id → record { number = 0; position = i } ≡ placed w id
  unfolding placed place_given
  place_given_lem i e at = (λ t. record { number = 0; position = at t }) ∙ sym (answer_given (place_given w id) place_refused _ e)

  -- the number is the first that applies
  pub ring_place_no : (placed w id).number ≡ place_no w id
  unfolding placed place_given place_refused
  ring_place_no = answer_number (place_given w id) place_refused (λ r. r.number) refl (λ k. refl) (place_no w id)

  -- one question, one answer
  pub ring_place_once : (r r' : Placed) → r ≡ placed w id → r' ≡ placed w id → r ≡ r'
  ring_place_once r r' e f = e ∙ sym f

  -- from what the check found
  module _ (h : Head) (e : h ≡ head_of w) where
    pub place_sheet : (h.number ≡ 0 → ⊥) → record { number = h.number; position = 0 } ≡ placed w id
    unfolding place_no
    place_sheet ne =
        let n : h.number ≡ sheet_no w = head_number w h e in
        place_refused_lem h.number (first_stops (sheet_no w) _ (λ z. ne (n ∙ z)) ∙ sym n) ne

    module _ (z : h.number ≡ 0) (i : ℕ) (at_i : i ≡ position_of (points_of w) id) where
      as_many : length (points_of w) ≡ h.n
      as_many = length_points w ∙ sym (headed w h e z).n_is

      -- the sheet opens, so the number is the id's
      after : place_no w id ≡ id_no (points_of w) id
      unfolding place_no
      after = first_passes (sheet_no w) _ (headed w h e z).opens ∙ first_last _

      pub place_unknown : h.n ≤ i → record { number = 20; position = 0 } ≡ placed w id
      unfolding id_no given
      place_unknown past =
          place_refused_lem 20 (after ∙ rw (le-ltb (position_of (points_of w) id) (length (points_of w)) (omega (arith, as_many)))) (λ x. omega arith)

      pub place_found : i < h.n → record { number = 0; position = i } ≡ placed w id
      unfolding id_no
      place_found within =
          place_given_lem i (after ∙ given_no 20 (ap not (lt-ltb (position_of (points_of w) id) (length (points_of w)) (omega (arith, as_many))))) at_i

-- ---- what an answer means

-- where it is served the id is known
known : (w : List ℤ) (id : ℕ) → place_no w id ≡ 0 → position_of (points_of w) id < length (points_of w)
unfolding place_no id_no
known w id e = ltb-true (position_of (points_of w) id) (length (points_of w)) (given_held 19 ((none_applies _).0 e 1))

-- the record at the position has the id
pub place_holds : (w : List ℤ) (id : ℕ) → (placed w id).number ≡ 0 → id_at (points_of w) (placed w id).position ≡ id
unfolding position_of
place_holds w id z =
    let e : place_no w id ≡ 0 = sym (ring_place_no w id) ∙ z in
    let hit : has w id (first_b (length (points_of w)) (has w id)) ≡ true = first_hit (has w id) (length (points_of w)) (known w id e) in
    ap (λ (r : Placed). id_at (points_of w) r.position) (sym (place_given_lem w id (position_of (points_of w) id) e refl)) ∙ eqb-true _ id hit

-- no other question is refused: a sheet that opens and the id of a record of it are served
pub place_served : (w : List ℤ) (id : ℕ) → sheet_no w ≡ 0 → (j : ℕ) → j < length (points_of w) → id_at (points_of w) j ≡ id → (placed w id).number ≡ 0
unfolding place_no id_no position_of first given
place_served w id opens j h e =
    let here = first_in (has w id) (length (points_of w)) j h (eq-eqb (id_at (points_of w) j) id e) in
    ring_place_no w id ∙ rw (opens, lt-ltb (first_b (length (points_of w)) (has w id)) (length (points_of w)) here)
