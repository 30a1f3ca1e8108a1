-- What it means that a sheet opens: all that the tests of `open_no` say, in one record.
-- Assumes nothing.
use mathlib.Core.Path.{◌≡◌, refl, sym, ap, subst, ◌∙◌}
use mathlib.Core.Bool.{Bool, true, false, cond, beq, ◌&&◌}
use mathlib.Core.List.{List, [], ◌∷◌}
use Prim.Native.Nat.{ℕ, ◌≤◌}
use native.Mathlib.Omega.{arith}
use lib.Dec.{eqb}
use lib.ListN.{length}
use lib.IntN.{ℤ, pos}
use borrow.Author.Tests.{eqb-true, eq-eqb}
use Rattle.integers.proofs.Bools.{and_left, and_right, and_both}
use Rattle.words.proofs.FirstLaws.{none_applies, given_held}
use Rattle.sheet.specs.declared.Limits.{Limits}
use Rattle.words.specs.Word.{eq_z}
use Rattle.words.specs.Range.{id_word, coord_word}
use Rattle.words.proofs.AllLaws.{all_at, all_make}
use Rattle.words.proofs.RangeLaws.{coord_wider}
use Rattle.sheet.specs.Points.{id_at, x_at, y_at, fields_ok, rises_ok, point_ok, points_ok}
use Rattle.sheet.specs.Limits.{Fair, form1, form2, limits_of}
use Rattle.sheet.specs.Layout.{form, second, points, nodes}
use Rattle.sheet.specs.Nodes.{table_ok, nodes_ok}
use Rattle.sheet.specs.Open.{body_no, open_no, sheet_no, Opens}
use Rattle.sheet.proofs.OpenLaws.{Trailer, trailer_facts, nodes_table}

empties : (n m : ℕ) → beq (eqb n 0) (eqb m 0) ≡ true → m ≡ 0 → n ≡ 0
empties n m e z = eqb-true n 0 (left (eqb n 0) (eqb m 0) e (eq-eqb m 0 z))
  where
    left : (a b : Bool) → beq a b ≡ true → b ≡ true → a ≡ true
    left true b e f = refl
    left false true e f = e
    left false false e f = f

-- its numbers are within the limits of its form
pub open_trailer : (lim : Limits) (w : List ℤ) → open_no lim w ≡ 0 → Trailer lim w
unfolding open_no
open_trailer lim w e = trailer_facts lim w ((none_applies _).0 e 0)

-- form 2's limits are the widest: points within those of any form are within these
pub points_wider : (lim : Limits) → Fair lim → (w : List ℤ) (n : ℕ) → points_ok lim w n ≡ true → points_ok form2 w n ≡ true
unfolding points_ok point_ok fields_ok form2
points_wider lim fair w n e = all_make _ n (λ i h.
    let a = id_word (id_at w i) in
    let b = coord_word lim.coordinate (x_at w i) in
    let c = coord_word lim.coordinate (y_at w i) in
    let t = all_at (point_ok lim w) n e i h in
    let f = and_left (a && b && c) (rises_ok w i) t in
    and_both _ _
    (and_both _ _ (and_both _ _ (and_left a b (and_left (a && b) c f)) (coord_wider _ _ _ fair.coordinate_to (and_right a b (and_left (a && b) c f))))
    (coord_wider _ _ _ fair.coordinate_to (and_right (a && b) c f)))
    (and_right (a && b && c) (rises_ok w i) t))

-- a sheet that opens passes every test
pub open_facts : (lim : Limits) → Fair lim → (w : List ℤ) → open_no lim w ≡ 0 → Opens w (points w) (nodes w)
unfolding open_no body_no nodes_ok
open_facts lim fair w e =
    let n = points w in
    let m = nodes w in
    let t = open_trailer lim w e in
    let z = (none_applies _).0 ((none_applies _).0 e 1) in
    let tree = given_held _ (z 2) in
    record {
      n_is = refl;
      m_is = refl;
      n_le = omega (arith, t.n_le, fair.points_le);
      m_le = omega (arith, t.m_le, fair.nodes_le);
      long = t.size;
      pointed = points_wider lim fair w n (given_held _ (z 0));
      ordered = given_held _ (z 1);
      table = nodes_table w n m tree;
      tight = given_held _ (z 3);
      empty = empties n m (and_left (beq (eqb n 0) (eqb m 0)) (table_ok w n m) tree);
    }

-- its points pass by the limits of its form
pub open_points : (lim : Limits) (w : List ℤ) → open_no lim w ≡ 0 → points_ok lim w (points w) ≡ true
unfolding open_no body_no
open_points lim w e = given_held _ ((none_applies _).0 ((none_applies _).0 e 1) 0)

pub form1_fair : Fair form1
unfolding form1
form1_fair = record { points_le = omega arith; nodes_le = omega arith; coordinate_from = record { le = tt }; coordinate_to = record { le = tt } }

pub form2_fair : Fair form2
unfolding form2
form2_fair = record { points_le = omega arith; nodes_le = omega arith; coordinate_from = record { le = tt }; coordinate_to = record { le = tt } }

-- whatever the form number, its limits are fair
pub limits_fair : (z : ℤ) → Fair (limits_of z)
unfolding limits_of
limits_fair z = go (eq_z z (pos 2))
  where
    go : (t : Bool) → Fair (cond t form2 form1)
    go true = form2_fair
    go false = form1_fair

-- a sheet of either form that opens passes every test, and has its trailer
pub sheet_facts : (w : List ℤ) → sheet_no w ≡ 0 → Opens w (points w) (nodes w)
sheet_facts w e = open_facts (limits_of (form w)) (limits_fair (form w)) w e

pub sheet_long : (w : List ℤ) → sheet_no w ≡ 0 → 6 ≤ length w
sheet_long w e = (open_trailer (limits_of (form w)) w e).long

-- "Form 1 sheets open as before under their own limits", and so do those of form 2 under theirs
pub form1_as_before : (w : List ℤ) → form w ≡ pos 1 → sheet_no w ≡ open_no form1 w
unfolding limits_of eq_z
form1_as_before w e = ap (λ (z : ℤ). open_no (limits_of z) w) e

pub form2_as_stated : (w : List ℤ) → form w ≡ pos 2 → sheet_no w ≡ open_no form2 w
unfolding limits_of eq_z
form2_as_stated w e = ap (λ (z : ℤ). open_no (limits_of z) w) e

-- a sheet that opens, by its by_counts counts
pub by_counts : {w : List ℤ} {n m : ℕ} → Opens w n m → Opens w (points w) (nodes w)
by_counts {w} {n} o = subst (λ (a : ℕ). Opens w a (nodes w)) (sym o.n_is) (subst (Opens w n) (sym o.m_is) o)

-- the limits that the last word asks for: no words have the form word 0
pub second_none : (w : List ℤ) → length w ≡ 0 → false ≡ second w
unfolding eq_z
second_none [] e = refl
second_none (x ∷ w) e = absurd (omega arith)

pub limits_two : (w : List ℤ) (t : Bool) → t ≡ eq_z (form w) (pos 2) → t ≡ true → form2 ≡ limits_of (form w)
unfolding limits_of
limits_two w t e f = ap (λ (b : Bool). cond b form2 form1) (sym f ∙ e)

pub limits_one : (w : List ℤ) (t : Bool) → t ≡ eq_z (form w) (pos 2) → t ≡ false → form1 ≡ limits_of (form w)
unfolding limits_of
limits_one w t e f = ap (λ (b : Bool). cond b form2 form1) (sym f ∙ e)
