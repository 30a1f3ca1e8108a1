-- The places of the points of a sheet that opens, and the boxes of its nodes, are within the range that the arithmetic of the plane asks.
-- Assumes nothing.
use mathlib.Core.Path.{◌≡◌, refl, sym, subst}
use mathlib.Core.Bool.{true, false, ◌&&◌}
use mathlib.Core.List.{List}
use Prim.Native.Nat.{ℕ, ◌<◌}
use native.Mathlib.Omega.{arith}
use lib.IntN.{ℤ, pos}
use lib.Signed.{◌≤ℤ◌}
use Rattle.integers.specs.Bounds.{Within}
use Rattle.integers.proofs.Order.{zl}
use Rattle.words.specs.Range.{id_word, coord_word}
use Rattle.words.proofs.RangeLaws.{coord_in}
use Rattle.integers.proofs.Bools.{and_left, and_right}
use Rattle.words.proofs.AllLaws.{all_at}
use Rattle.plane.specs.Rule.{SpotTo, SpotIn, BoxIn}
use Rattle.sheet.specs.Points.{id_at, x_at, y_at, fields_ok, rises_ok, point_ok, points_ok}
use Rattle.sheet.specs.Order.{order_of}
use Rattle.sheet.specs.Nodes.{level_of}
use Rattle.sheet.specs.Places.{spot_of, box_of}
use Rattle.sheet.specs.declared.Limits.{Limits}
use Rattle.sheet.specs.Limits.{form1, form2, limits_of}
use Rattle.sheet.specs.Layout.{form, second, points}
use Rattle.sheet.specs.Open.{sheet_no, Opens}
use Rattle.sheet.proofs.SheetLaws.{open_points, form2_fair, limits_one}
use Rattle.sheet.proofs.OrderLaws.{order_below}
use Rattle.sheet.proofs.PlaceLaws.{touching, touching_below, below_place, on_sides}

fields : (lim : Limits) (w : List ℤ) (n : ℕ) → points_ok lim w n ≡ true → (i : ℕ) → i < n → (coord_word lim.coordinate (x_at w i) ≡ true) × (coord_word lim.coordinate (y_at w i) ≡ true)
unfolding points_ok point_ok fields_ok
fields lim w n p i h =
    let a = id_word (id_at w i) in
    let b = coord_word lim.coordinate (x_at w i) in
    let c = coord_word lim.coordinate (y_at w i) in
    let e = and_left (a && b && c) (rises_ok w i) (all_at (point_ok lim w) n p i h) in
    (and_right a b (and_left (a && b) c e), and_right (a && b) c e)

-- a point stands within any bound of the coordinates of the limits that it is tried by
pub spot_within : (lim : Limits) (w : List ℤ) (n : ℕ) → points_ok lim w n ≡ true → (c : ℕ) → lim.coordinate ≤ℤ pos c → (i : ℕ) → i < n → Within c (spot_of w i).x × Within c (spot_of w i).y
unfolding spot_of
spot_within lim w n p c k i h = let f = fields lim w n p i h in (coord_in lim.coordinate (x_at w i) c k f.0, coord_in lim.coordinate (y_at w i) c k f.1)

module _ {w : List ℤ} {n m : ℕ} (o : Opens w n m) where
  pub spot_in : (i : ℕ) → i < n → SpotIn (spot_of w i)
  spot_in i h = let z = spot_within form2 w n o.pointed 1_000_000_000 form2_fair.coordinate_to i h in record { x_in = z.0; y_in = z.1 }

  pub box_in : (j : ℕ) → j < m → BoxIn (box_of w n j)
  box_in j h =
      let l = level_of w n j in
      let s = on_sides w n m o.table o.tight l j h refl in
      record {
        xmin_in = subst (Within 1_000_000_000) s.left (at 0).x_in;
        ymin_in = subst (Within 1_000_000_000) s.bottom (at 1).y_in;
        xmax_in = subst (Within 1_000_000_000) s.right (at 2).x_in;
        ymax_in = subst (Within 1_000_000_000) s.top (at 3).y_in;
        wide = through _ _ _ (s.within 0 (omega arith)).left (s.within 0 (omega arith)).right;
        tall = through _ _ _ (s.within 0 (omega arith)).low (s.within 0 (omega arith)).high;
      }
    where
      through : (x y z : ℤ) → x ≤ℤ y → y ≤ℤ z → x ≤ℤ z
      through x y z a b = omega zl

      place : ℕ → ℕ
      place q = touching w n m o.table o.tight (level_of w n j) j h refl q

      at : (q : ℕ) → SpotIn (spot_of w (order_of w n (place q)))
      at q = spot_in (order_of w n (place q)) (order_below w n o.ordered (place q) (below_place w n m o.table o.tight (level_of w n j) j h refl (place q) (touching_below w n m o.table o.tight (level_of w n j) j h refl q)))

-- the points of a sheet that opens and is not of form 2 stand within a million
pub first_within : (w : List ℤ) → sheet_no w ≡ 0 → second w ≡ false → (i : ℕ) → i < points w → SpotTo 1_000_000 (spot_of w i)
first_within w e f i h =
    let one : form1 ≡ limits_of (form w) = limits_one w false (sym f) refl in
    let p : points_ok form1 w (points w) ≡ true = subst (λ (l : Limits). points_ok l w (points w) ≡ true) (sym one) (open_points (limits_of (form w)) w e) in
    let c : form1.coordinate ≤ℤ pos 1_000_000 = unfold form1 in record { le = tt } in
    let z = spot_within form1 w (points w) p 1_000_000 c i h in
    record { x_in = z.0; y_in = z.1 }
