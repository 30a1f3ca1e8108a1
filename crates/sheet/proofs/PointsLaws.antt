-- Laws of the list of a sheet's points.
-- Assumes nothing.
use mathlib.Core.Path.{◌≡◌, ap, subst}
use mathlib.Core.Bool.{true, ◌&&◌}
use mathlib.Core.List.{List}
use Prim.Native.Nat.{ℕ, ◌+◌, ◌-◌, ◌<◌, ◌≤◌}
use native.Mathlib.Omega.{arith}
use lib.IntN.{ℤ, pos, negsuc}
use lib.ListN.{length}
use borrow.Author.Tests.{ltb-true, ne_eqb}
use Rattle.integers.proofs.Bools.{and_left, and_right}
use Rattle.plane.specs.Point.{Point, point_at, spot_at}
use Rattle.words.specs.Word.{num, before}
use Rattle.words.specs.Range.{id_word, coord_word}
use Rattle.words.proofs.AllLaws.{all_at}
use Rattle.words.proofs.TabLaws.{length_tab, at_tab}
use Rattle.words.proofs.RangeLaws.{id_num, id_is, id_bounds}
use Rattle.sheet.specs.Layout.{points}
use Rattle.sheet.specs.Limits.{form2}
use Rattle.sheet.specs.Points.{id_at, x_at, y_at, fields_ok, rises_ok, point_ok, points_ok}
use Rattle.sheet.specs.Places.{spot_of, point_of, points_of}
use Rattle.sheet.specs.Open.{Opens}

pub length_points : (w : List ℤ) → length (points_of w) ≡ points w
unfolding points_of
length_points w = length_tab (points w) (point_of w)

-- the record at a position
pub point_at_lem : (w : List ℤ) (i : ℕ) → i < points w → point_at (points_of w) i ≡ point_of w i
unfolding points_of
point_at_lem w i h = at_tab (points w) (point_of w) _ i h

-- the id and the place of the record at a position
pub id_of : (w : List ℤ) (i : ℕ) → i < points w → Rattle.plane.specs.Point.id_at (points_of w) i ≡ num (id_at w i)
id_of w i h = ap (λ (p : Point). p.id) (point_at_lem w i h)

pub spot_of_lem : (w : List ℤ) (i : ℕ) → i < points w → spot_at (points_of w) i ≡ spot_of w i
spot_of_lem w i h = ap (λ (p : Point). p.spot) (point_at_lem w i h)

before_num : (a b : ℤ) → a ≡ pos (num a) → b ≡ pos (num b) → before a b ≡ true → num a < num b
unfolding before num
before_num (pos a) (pos b) e f t = ltb-true a b t
before_num (pos a) (negsuc b) e f t = absurd (not_pos b f)
  where
    not_pos : (k : ℕ) → negsuc k ≡ pos 0 → ⊥
    not_pos k e = let z : ◌≡◌ {A = ℕ} 0 1 = cc in omega arith
before_num (negsuc a) b e f t = absurd (not_pos a e)
  where
    not_pos : (k : ℕ) → negsuc k ≡ pos 0 → ⊥
    not_pos k e = let z : ◌≡◌ {A = ℕ} 0 1 = cc in omega arith

-- "Ids strictly ascending, 1 to 2,000,000,000"
module _ {w : List ℤ} {n m : ℕ} (o : Opens w n m) where
  pub id_word_at : (i : ℕ) → i < n → id_word (id_at w i) ≡ true
  unfolding points_ok point_ok fields_ok
  id_word_at i h =
      let a = id_word (id_at w i) in
      let b = coord_word form2.coordinate (x_at w i) in
      let c = coord_word form2.coordinate (y_at w i) in
      and_left a b (and_left (a && b) c (and_left (a && b && c) (rises_ok w i) (all_at (point_ok form2 w) n o.pointed i h)))

  low : (i : ℕ) → i < n → 0 < num (id_at w i)
  low i h = let b = id_bounds (num (id_at w i)) (id_num (id_at w i) (id_word_at i h)) in omega arith

  high : (i : ℕ) → i < n → num (id_at w i) ≤ 2000000000
  high i h = (id_bounds (num (id_at w i)) (id_num (id_at w i) (id_word_at i h))).1

  rises : (i : ℕ) → i + 1 < n → num (id_at w i) < num (id_at w (i + 1))
  unfolding points_ok point_ok rises_ok
  rises i h =
      let r : rises_ok w (i + 1) ≡ true = and_right (fields_ok form2 w (i + 1)) (rises_ok w (i + 1)) (all_at (point_ok form2 w) n o.pointed (i + 1) h) in
      let b : before (id_at w (i + 1 - 1)) (id_at w (i + 1)) ≡ true = rw (ne_eqb (i + 1) 0 (λ z. omega arith)) at r in
      let e : i + 1 - 1 ≡ i = omega arith in
      let b' : before (id_at w i) (id_at w (i + 1)) ≡ true = subst (λ (k : ℕ). before (id_at w k) (id_at w (i + 1)) ≡ true) e b in
      before_num (id_at w i) (id_at w (i + 1)) (id_is _ (id_word_at i (omega arith))) (id_is _ (id_word_at (i + 1) h)) b'

  -- a position of the list is one of the n
  position : (i : ℕ) → i < length (points_of w) → i < n
  position i h = omega (arith, length_points w, o.n_is)

  is : (i : ℕ) → i < length (points_of w) → Rattle.plane.specs.Point.id_at (points_of w) i ≡ num (id_at w i)
  is i h = id_of w i (omega (arith, length_points w))

  -- the ids of the list of points, as `Rising` of the list's crate has them
  pub id_rises : (i : ℕ) → i + 1 < length (points_of w) → Rattle.plane.specs.Point.id_at (points_of w) i < Rattle.plane.specs.Point.id_at (points_of w) (i + 1)
  id_rises i h = rw (is i (omega arith), is (i + 1) h) (rises i (position (i + 1) h))

  pub id_low : (i : ℕ) → i < length (points_of w) → 0 < Rattle.plane.specs.Point.id_at (points_of w) i
  id_low i h = rw (is i h) (low i (position i h))

  pub id_high : (i : ℕ) → i < length (points_of w) → Rattle.plane.specs.Point.id_at (points_of w) i ≤ 2000000000
  id_high i h = rw (is i h) (high i (position i h))
