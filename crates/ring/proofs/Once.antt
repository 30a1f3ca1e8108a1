-- One input, one answer: from each promise alone. And the number of each answer.
-- Assumes nothing.
use Rattle.std.specs.Prelude.{Result, Ok, Err}
use mathlib.Core.Path.{◌≡◌, refl, sym, ap, ◌∙◌}
use mathlib.Core.Bool.{Bool, false}
use mathlib.Core.List.{List}
use Prim.Native.Nat.{ℕ}
use lib.IntN.{ℤ}
use Rattle.words.proofs.FirstLaws.{answer_number}
use Rattle.sheet.specs.Open.{sheet_no}
use Rattle.walk.specs.RingWalk.{pair_walk_by}
use Rattle.plane.specs.Profile.{profile_of}
use Rattle.ring.specs.Numbers.{point_no, filter_no, ring_no}
use Rattle.ring.specs.Answers.{head_of, asset_of, pointed_no, pointed, filtered_to, unfiltered, kept_for, filtered, walked_no, walked_clear, walked}
use Rattle.ring.specs.declared.Head.{Head}
use Rattle.ring.specs.declared.Filtered.{Filtered}
use Rattle.ring.proofs.RingLaws.{ring_refused}
use Rattle.ring.specs.declared.Asset.{Asset}
use Rattle.walk.specs.declared.Answer.{Answer}

pub ring_open_once : (w : List ℤ) (r r' : ℕ) → r ≡ sheet_no w → r' ≡ sheet_no w → r ≡ r'
ring_open_once w r r' e f = e ∙ sym f

pub ring_head_once : (w : List ℤ) (r r' : Head) → r ≡ head_of w → r' ≡ head_of w → r ≡ r'
ring_head_once w r r' e f = e ∙ sym f

pub ring_point_once : (w : List ℤ) (i : ℕ) (r r' : Result Asset ℕ) → r ≡ pointed w i → r' ≡ pointed w i → r ≡ r'
ring_point_once w i r r' e f = e ∙ sym f

pub ring_walk_once : (P Q : List ℤ) (j i : ℕ) (g : Bool) (r r' : Result Answer ℕ) → r ≡ walked P Q j i g → r' ≡ walked P Q j i g → r ≡ r'
ring_walk_once P Q j i g r r' e f = e ∙ sym f

pub ring_filter_once : (P Q : List ℤ) (j len : ℕ) (r r' : Filtered) → r ≡ filtered P Q j len → r' ≡ filtered P Q j len → r ≡ r'
ring_filter_once P Q j len r r' e f = e ∙ sym f

-- ---- the number of each answer

pub ring_point_no : (w : List ℤ) (i : ℕ) → pointed_no (pointed w i) ≡ point_no w i
unfolding pointed
ring_point_no w i = answer_number (Ok (asset_of w i)) Err pointed_no refl (λ k. refl) (point_no w i)

pub ring_walk_no : (P Q : List ℤ) (j i : ℕ) (g : Bool) → walked_no (walked P Q j i g) ≡ ring_no P Q j i g
unfolding walked
ring_walk_no P Q j i g = answer_number (Ok (pair_walk_by (profile_of g) P Q j i)) Err walked_no refl (λ k. refl) (ring_no P Q j i g)

-- a refused walk is never clear
pub refused_not_clear : (P Q : List ℤ) (j i : ℕ) (g : Bool) → (ring_no P Q j i g ≡ 0 → ⊥) → walked_clear (walked P Q j i g) ≡ false
refused_not_clear P Q j i g ne = ap walked_clear (sym (ring_refused P Q j i g (ring_no P Q j i g) refl ne))

pub ring_filter_no : (P Q : List ℤ) (j len : ℕ) → (filtered P Q j len).number ≡ filter_no P Q j len
unfolding filtered filtered_to unfiltered
ring_filter_no P Q j len = answer_number (filtered_to (kept_for P Q j)) unfiltered (λ r. r.number) refl (λ k. refl) (filter_no P Q j len)
