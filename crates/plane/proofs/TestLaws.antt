-- The tests of places and boxes as the code makes them.
-- Assumes nothing.
use Rattle.std.proofs.Common.{Less, Equal, Greater, cond}
use Rattle.std.specs.Ordering.{int_eq, is_eq}
use mathlib.Core.Path.{◌≡◌, refl, sym, ap, ap₂, subst, ◌∙◌}
use mathlib.Core.Bool.{Bool, true, false, not, ◌&&◌}
use mathlib.Core.Logic.{⊎_elim}
use lib.IntN.{ℤ, pos}
use lib.Signed.{le_z, lt_z, ◌≤ℤ◌, ◌<ℤ◌}
use Rattle.integers.proofs.Order.{zl, sfits_in, le_z_not}
use Rattle.integers.proofs.Solver.{con, ◌:+◌, ◌:-◌, ◌:*◌}
use Rattle.integers.proofs.Solve.{◌:=◌, solve₄}
use mir.Syntax.{w64}
use mir.Facts.{to_z-of_z}
use mir.Val.{to_z, of_z}
use Rattle.integers.proofs.Bools.{decide}
use Rattle.plane.specs.declared.Spot.{Spot}
use Rattle.plane.specs.declared.Boxed.{Boxed}
use Rattle.plane.specs.Rule.{SpotIn, BoxIn, dot, same_spot, in_box, blocks, drops_box, far_corner}
use Rattle.plane.proofs.Plane.{corner_most}
use Rattle.plane.proofs.RuleLaws.{lt_of, lt_le_z, not_same, box_holds, all_behind, one_corner}

not_lt : (a : ℤ) → a ≡ pos 0 → a <ℤ pos 0 → ⊥
not_lt a e h = let x : pos 0 <ℤ pos 0 = subst (λ (z : ℤ). z <ℤ pos 0) e h in x.lt

dot_left : (a b : Spot) → dot a b a ≡ pos 0
dot_left a b = solve₄ (λ ax ay bx by. (ax :- ax) :* (bx :- ax) :+ (ay :- ay) :* (by :- ay) := con (pos 0)) refl a.x a.y b.x b.y

dot_right : (a b : Spot) → dot a b b ≡ pos 0
dot_right a b = solve₄ (λ ax ay bx by. (ax :- bx) :* (bx :- bx) :+ (ay :- by) :* (by :- by) := con (pos 0)) refl a.x a.y b.x b.y

-- an end of the pair never lies strictly inside
strict_not_left : (a b z : Spot) → dot a b z <ℤ pos 0 → z ≡ a → ⊥
strict_not_left a b z h e = not_lt _ (ap (dot a b) e ∙ dot_left a b) h

strict_not_right : (a b z : Spot) → dot a b z <ℤ pos 0 → z ≡ b → ⊥
strict_not_right a b z h e = not_lt _ (ap (dot a b) e ∙ dot_right a b) h

-- what is strictly inside blocks
strict_blocks : (a b z : Spot) → dot a b z <ℤ pos 0 → blocks a b z ≡ true
unfolding blocks
strict_blocks a b z h = rw (lt_le_z _ _ h, not_same z a (strict_not_left a b z h), not_same z b (strict_not_right a b z h))

-- ---- the tests as the code makes them

-- two numbers are the same by the order, too
one_of : (a b : ℤ) → int_eq a b ≡ (le_z a b && le_z b a)
one_of a b = rw (le_z_not a b, le_z_not b a) (go (lt_z a b) (lt_z b a))
  where
    go : (s t : Bool) → is_eq (cond s Less (cond t Greater Equal)) ≡ (not t && not s)
    go true true = refl
    go true false = refl
    go false true = refl
    go false false = refl

pub same_by : (a b : Spot) → (int_eq a.x b.x && int_eq a.y b.y) ≡ same_spot a b
unfolding same_spot
same_by a b = ap₂ (λ (s t : Bool). s && t) (one_of a.x b.x) (one_of a.y b.y)

abbrev back : ℤ → ℤ
back z = to_z w64 (of_z w64 z)

pub in_by : (o : Boxed) (z : Spot) → BoxIn o → SpotIn z → (le_z (back o.xmin) (back z.x) && le_z (back z.x) (back o.xmax) && le_z (back o.ymin) (back z.y) && le_z (back z.y) (back o.ymax)) ≡ in_box o z
unfolding in_box
in_by o z f g =
    rw (to_z-of_z {w = w64} {z = o.xmin} (sfits_in f.xmin_in tt), to_z-of_z {w = w64} {z = o.xmax} (sfits_in f.xmax_in tt), to_z-of_z {w = w64} {z = o.ymin} (sfits_in f.ymin_in tt), to_z-of_z {w = w64} {z = o.ymax} (sfits_in f.ymax_in tt), to_z-of_z {w = w64} {z = z.x} (sfits_in g.x_in tt), to_z-of_z {w = w64} {z = z.y} (sfits_in g.y_in tt))

-- the product d of the pair a, b and z: outside the circle, inside, and where it is not outside
module _ (a b z : Spot) (d : ℤ) (e : d ≡ dot a b z) where
  pub outside_no : lt_z (pos 0) d ≡ true → false ≡ blocks a b z
  unfolding blocks
  outside_no h = let f : le_z d (pos 0) ≡ false = omega zl in rw (← e, f)

  pub inside_yes : lt_z d (pos 0) ≡ true → true ≡ blocks a b z
  inside_yes h = sym (strict_blocks a b z (subst (λ (y : ℤ). y <ℤ pos 0) e (lt_of d (pos 0) h)))

  pub circle_places : {r s : Bool} → r ≡ same_spot z a → s ≡ same_spot z b → lt_z (pos 0) d ≡ false → (not r && not s) ≡ blocks a b z
  unfolding blocks
  circle_places f g h = let k : le_z d (pos 0) ≡ true = omega zl in rw (← e, k, f, g)

-- the product d of q, the farthest corner of the box, and p: before the line, behind it, and where it is not before
module _ (q p : Spot) (o : Boxed) (b : BoxIn o) (d : ℤ) (e : d ≡ dot q (far_corner q p o) p) where
  is : all_behind q p o ≡ le_z d (pos 0)
  is = one_corner q p o b ∙ ap (λ (z : ℤ). le_z z (pos 0)) (sym e)

  pub front_no : lt_z (pos 0) d ≡ true → false ≡ drops_box q p o
  unfolding drops_box
  front_no h = let f : le_z d (pos 0) ≡ false = omega zl in let g : all_behind q p o ≡ false = is ∙ f in rw g

  pub behind_yes : lt_z d (pos 0) ≡ true → true ≡ drops_box q p o
  unfolding drops_box
  behind_yes h =
      let f : le_z d (pos 0) ≡ true = omega zl in
      let g : all_behind q p o ≡ true = is ∙ f in
      rw (g, not_same p q apart, not_in)
    where
      strict : dot q (far_corner q p o) p <ℤ pos 0
      strict = subst (λ (y : ℤ). y <ℤ pos 0) e (lt_of d (pos 0) h)

      apart : p ≡ q → ⊥
      apart z = strict_not_left q (far_corner q p o) p strict z

      not_in : not (in_box o p) ≡ true
      not_in = ⊎_elim (λ (t : in_box o p ≡ true). absurd (not_lt_zero (corner_most q p o p (box_holds o p t)))) (λ (t : in_box o p ≡ false). ap not t) (decide (in_box o p))
        where
          not_lt_zero : dot q p p ≤ℤ dot q (far_corner q p o) p → ⊥
          not_lt_zero k = let z = dot_right q p in omega (zl, strict, k, z)

  pub line_places : {r s : Bool} → r ≡ same_spot p q → s ≡ in_box o p → lt_z (pos 0) d ≡ false → (not r && not s) ≡ drops_box q p o
  unfolding drops_box
  line_places f g h = let k : le_z d (pos 0) ≡ true = omega zl in let t : all_behind q p o ≡ true = is ∙ k in rw (t, f, g)
