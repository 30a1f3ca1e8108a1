-- The point reader's answers.
-- Assumes nothing.
use Rattle.std.specs.Prelude.{Ok, Err}
use mathlib.Core.Path.{◌≡◌, sym, ap, ◌∙◌}
use mathlib.Core.List.{List}
use Prim.Native.Nat.{ℕ, ◌<◌, ◌≤◌}
use native.Mathlib.Omega.{arith}
use lib.IntN.{ℤ}
use Rattle.words.specs.Word.{num}
use Rattle.words.proofs.FirstLaws.{first_passes, first_stops, first_last, answer_given, answer_refused}
use Rattle.plane.specs.Point.{point_at}
use Rattle.plane.specs.Rule.{spot}
use Rattle.sheet.specs.Layout.{points}
use Rattle.sheet.specs.Points.{id_at, x_at, y_at}
use Rattle.sheet.specs.Places.{spot_of, points_of}
use Rattle.sheet.specs.Open.{sheet_no}
use Rattle.sheet.proofs.PointsLaws.{point_at_lem}
use Rattle.ring.specs.Numbers.{point_no}
use Rattle.ring.specs.Answers.{head_of, asset_of, pointed}
use Rattle.ring.specs.declared.Head.{Head}
use Rattle.ring.specs.declared.Asset.{Asset}
use Rattle.ring.proofs.NumberLaws.{position_past, ring_position_in}
use Rattle.ring.proofs.HeadLaws.{head_number, headed}

pub point_refused : (w : List ℤ) (i k : ℕ) → point_no w i ≡ k → (k ≡ 0 → ⊥) → Err k ≡ pointed w i
unfolding pointed
point_refused w i k e ne = sym (answer_refused (Ok (asset_of w i)) Err _ k e ne)

pub point_given : (w : List ℤ) (i : ℕ) (a : Asset) → point_no w i ≡ 0 → a ≡ asset_of w i → Ok a ≡ pointed w i
unfolding pointed
point_given w i a e f = ap Ok f ∙ sym (answer_given (Ok (asset_of w i)) Err _ e)

-- from what the check found
module _ (w : List ℤ) (i : ℕ) (h : Head) (e : h ≡ head_of w) where
  pub point_sheet : (h.number ≡ 0 → ⊥) → Err h.number ≡ pointed w i
  unfolding point_no
  point_sheet ne =
      let n : h.number ≡ sheet_no w = head_number w h e in
      point_refused w i h.number (first_stops (sheet_no w) _ (λ z. ne (n ∙ z)) ∙ sym n) ne

  pub point_past : h.number ≡ 0 → h.n ≤ i → Err 9 ≡ pointed w i
  unfolding point_no
  point_past z past =
      let o = headed w h e z in
      point_refused w i 9 (first_passes (sheet_no w) _ o.opens ∙ first_last _ ∙ position_past w i (omega (arith, o.n_is))) (λ y. omega arith)

  pub point_read : (a : Asset) → h.number ≡ 0 → i < h.n → a ≡ asset_of w i → Ok a ≡ pointed w i
  unfolding point_no
  point_read a z within is =
      let o = headed w h e z in
      point_given w i a (first_passes (sheet_no w) _ o.opens ∙ first_last _ ∙ ring_position_in w i (omega (arith, o.n_is))) is

-- the record of a position, from its three words as they are read
pub asset_read : (w : List ℤ) (i k : ℕ) (x y : ℤ) → k ≡ num (id_at w i) → x ≡ x_at w i → y ≡ y_at w i → record { id = k; x = x; y = y } ≡ asset_of w i
unfolding asset_of
asset_read w i k x y d e f = λ t. record { id = d t; x = e t; y = f t }

-- it is the record of the list of points
pub asset_listed : (w : List ℤ) (i : ℕ) → i < points w → point_at (points_of w) i ≡ record { id = (asset_of w i).id; spot = spot (asset_of w i).x (asset_of w i).y }
unfolding asset_of spot_of
asset_listed w i h = point_at_lem w i h
