-- What the half-plane rule says of the places in a box: `box_drops`, `point_box`; and laws of places.
-- Assumes nothing.
use mathlib.Core.Path.{◌≡◌, refl, ap, ◌∙◌}
use mathlib.Core.Bool.{Bool, true, false, not, cond, ◌&&◌}
use mathlib.Core.Logic.{⊎_elim}
use lib.IntN.{ℤ, pos}
use lib.Signed.{le_z, lt_z, ◌≤ℤ◌, ◌<ℤ◌}
use Rattle.integers.proofs.Order.{zl}
use Rattle.integers.proofs.Bools.{and_left, and_right, and_both, decide, clash, test_iff}
use Rattle.plane.specs.declared.Spot.{Spot}
use Rattle.plane.specs.declared.Boxed.{Boxed}
use Rattle.plane.specs.Rule.{BoxIn, spot, dot, same, same_spot, in_box, blocks, drops, behind, drops_box, box_at, far_corner}
use Rattle.plane.proofs.Plane.{In, corner_most}

-- ---- tests and orders

le_of : (a b : ℤ) → le_z a b ≡ true → a ≤ℤ b
le_of a b e = omega zl

of_le : (a b : ℤ) → a ≤ℤ b → le_z a b ≡ true
of_le a b h = omega zl

pub lt_of : (a b : ℤ) → lt_z a b ≡ true → a <ℤ b
lt_of a b e = omega zl

no_le : (a b : ℤ) → b <ℤ a → le_z a b ≡ false
no_le a b h = omega zl

pub lt_le_z : (a b : ℤ) → a <ℤ b → le_z a b ≡ true
lt_le_z a b h = omega zl

-- ---- places

-- what a conjunction of three says
and₀ : (a b c : Bool) → (a && b && c) ≡ true → a ≡ true
and₀ a b c e = and_left a b (and_left (a && b) c e)

and₁ : (a b c : Bool) → (a && b && c) ≡ true → b ≡ true
and₁ a b c e = and_right a b (and_left (a && b) c e)

and₂ : (a b c : Bool) → (a && b && c) ≡ true → c ≡ true
and₂ a b c e = and_right (a && b) c e

same_number : (a b : ℤ) → same a b ≡ true → a ≡ b
same_number a b e = let h = le_of a b (and_left (le_z a b) (le_z b a) e) in let k = le_of b a (and_right (le_z a b) (le_z b a) e) in omega zl

number_same : (a : ℤ) → same a a ≡ true
number_same a = let e : le_z a a ≡ true = omega zl in and_both (le_z a a) (le_z a a) e e

same_is : (a b : Spot) → same_spot a b ≡ true → a ≡ b
unfolding same_spot
same_is a b e =
    let x = same_number a.x b.x (and_left (same a.x b.x) (same a.y b.y) e) in
    let y = same_number a.y b.y (and_right (same a.x b.x) (same a.y b.y) e) in
    λ i. record { x = x i; y = y i }

pub same_self : (a : Spot) → same_spot a a ≡ true
unfolding same_spot
same_self a = and_both (same a.x a.x) (same a.y a.y) (number_same a.x) (number_same a.y)

pub not_same : (a b : Spot) → (a ≡ b → ⊥) → not (same_spot a b) ≡ true
not_same a b f = ⊎_elim (λ e. absurd (f (same_is a b e))) (λ e. ap not e) (decide (same_spot a b))

in_box_lem : (o : Boxed) (z : Spot) → In o z → in_box o z ≡ true
unfolding in_box
in_box_lem o z i = rw (of_le _ _ i.left, of_le _ _ i.right, of_le _ _ i.low, of_le _ _ i.high)

pub box_holds : (o : Boxed) (z : Spot) → in_box o z ≡ true → In o z
unfolding in_box
box_holds o z e =
    let e₁ = and_left (le_z o.xmin z.x && le_z z.x o.xmax && le_z o.ymin z.y) (le_z z.y o.ymax) e in
    record {
      left = le_of _ _ (and₀ (le_z o.xmin z.x) (le_z z.x o.xmax) (le_z o.ymin z.y) e₁);
      right = le_of _ _ (and₁ (le_z o.xmin z.x) (le_z z.x o.xmax) (le_z o.ymin z.y) e₁);
      low = le_of _ _ (and₂ (le_z o.xmin z.x) (le_z z.x o.xmax) (le_z o.ymin z.y) e₁);
      high = le_of _ _ (and_right (le_z o.xmin z.x && le_z z.x o.xmax && le_z o.ymin z.y) (le_z z.y o.ymax) e);
    }

-- ---- the rules

-- the tests of the four corners
abbrev pub all_behind : Spot → Spot → Boxed → Bool
all_behind q p o = behind q p (spot o.xmin o.ymin) && behind q p (spot o.xmin o.ymax) && behind q p (spot o.xmax o.ymin) && behind q p (spot o.xmax o.ymax)

-- if all are behind the line, so is the farthest
all_far : (q p : Spot) (o : Boxed) → all_behind q p o ≡ true → behind q p (far_corner q p o) ≡ true
all_far q p o e = by (lt_z p.x q.x) (lt_z p.y q.y)
  where
    at : Bool → Bool → Spot
    at s t = spot (cond s o.xmax o.xmin) (cond t o.ymax o.ymin)

    three : (behind q p (at false false) && behind q p (at false true) && behind q p (at true false)) ≡ true
    three = and_left (behind q p (at false false) && behind q p (at false true) && behind q p (at true false)) (behind q p (at true true)) e

    by : (s t : Bool) → behind q p (at s t) ≡ true
    by false false = and₀ (behind q p (at false false)) (behind q p (at false true)) (behind q p (at true false)) three
    by false true = and₁ (behind q p (at false false)) (behind q p (at false true)) (behind q p (at true false)) three
    by true false = and₂ (behind q p (at false false)) (behind q p (at false true)) (behind q p (at true false)) three
    by true true = and_right (behind q p (at false false) && behind q p (at false true) && behind q p (at true false)) (behind q p (at true true)) e

-- and if the farthest is, so is every place of the box
far_behind : (q p : Spot) (o : Boxed) (z : Spot) → behind q p (far_corner q p o) ≡ true → In o z → behind q p z ≡ true
far_behind q p o z e i = let h = corner_most q p o z i in let k = le_of (dot q (far_corner q p o) p) (pos 0) e in of_le (dot q z p) (pos 0) (below _ _ h k)
  where
    below : (x y : ℤ) → x ≤ℤ y → y ≤ℤ pos 0 → x ≤ℤ pos 0
    below x y a b = omega zl

-- so of a box the farthest corner alone decides
pub one_corner : (q p : Spot) (o : Boxed) → BoxIn o → all_behind q p o ≡ behind q p (far_corner q p o)
one_corner q p o b = test_iff _ _ (all_far q p o) (λ e. four e)
  where
    self : (z : ℤ) → z ≤ℤ z
    self z = omega zl

    four : behind q p (far_corner q p o) ≡ true → all_behind q p o ≡ true
    four e =
        rw (far_behind q p o (spot o.xmin o.ymin) e (record { left = self _; right = b.wide; low = self _; high = b.tall }), far_behind q p o (spot o.xmin o.ymax) e (record { left = self _; right = b.wide; low = b.tall; high = self _ }), far_behind q p o (spot o.xmax o.ymin) e (record { left = b.wide; right = self _; low = self _; high = b.tall }), far_behind q p o (spot o.xmax o.ymax) e (record { left = b.wide; right = self _; low = b.tall; high = self _ }))

-- the half-plane rule: a box behind the line that does not contain the kept place holds only points that it drops
pub box_drops : (q p : Spot) (o : Boxed) (z : Spot) → drops_box q p o ≡ true → In o z → drops q p z ≡ true
unfolding drops_box drops blocks
box_drops q p o z e i =
    let h = far_behind q p o z (all_far q p o (and₀ (all_behind q p o) (not (same_spot p q)) (not (in_box o p)) e)) i in
    let out = and₂ (all_behind q p o) (not (same_spot p q)) (not (in_box o p)) e in
    rw (h, and₁ (all_behind q p o) (not (same_spot p q)) (not (in_box o p)) e, not_same p z (λ s. clash out (ap (λ (y : Spot). not (in_box o y)) s ∙ ap not (in_box_lem o z i))))

-- a box of no extent contains just its place
in_point : (z p : Spot) → in_box (box_at z) p ≡ same_spot p z
unfolding in_box same_spot
in_point z p = turned (le_z p.x z.x) (le_z z.x p.x) (le_z p.y z.y) (le_z z.y p.y)
  where
    turned : (a b c d : Bool) → (b && a && d && c) ≡ (a && b && (c && d))
    turned true true true true = refl
    turned true true true false = refl
    turned true true false true = refl
    turned true true false false = refl
    turned true false c d = refl
    turned false true c d = refl
    turned false false c d = refl

-- so a place is dropped exactly if the box of no extent is
pub point_box : (q p z : Spot) → drops_box q p (box_at z) ≡ drops q p z
unfolding drops_box drops blocks
point_box q p z = rw (in_point z p) (four (behind q p z) (not (same_spot p q)) (not (same_spot p z)))
  where
    four : (b r s : Bool) → (b && b && b && b && r && s) ≡ (b && r && s)
    four true r s = refl
    four false r s = refl
