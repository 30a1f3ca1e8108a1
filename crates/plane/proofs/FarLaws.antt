-- Rule (1) in unsigned words, axis by axis.
-- Assumes nothing.
use mathlib.Core.Path.{◌≡◌, refl, sym, ap, subst, ◌∙◌}
use mathlib.Core.Bool.{Bool, true, false, cond}
use Prim.Native.Nat.{ℕ, ◌+◌, ◌-◌, ◌*◌, ◌<◌, ◌≤◌}
use native.Mathlib.Omega.{arith}
use native.Mathlib.Nat.{mul-le-mul}
use lib.Dec.{ltb}
use lib.IntN.{ℤ, pos, nat_abs, ◌+ℤ◌, ◌-ℤ◌, ◌*ℤ◌}
use lib.Signed.{lt_z, ◌≤ℤ◌}
use borrow.Author.Tests.{ltb-true, lt-ltb}
use mir.Syntax.{w64}
use mir.Val.{Fits}
use Rattle.integers.specs.Bounds.{Within}
use Rattle.integers.proofs.Order.{zl, in--, in_up, in_lit, diff, +-mono}
use Rattle.integers.proofs.Sign.{sq-≥0}
use Rattle.integers.proofs.Bools.{test_iff}
use Rattle.plane.specs.declared.Spot.{Spot}
use Rattle.plane.specs.declared.Boxed.{Boxed}
use Rattle.plane.specs.Rule.{sq, out, size, far}

-- how far c is outside is not negative, and within 4,000,000,000
pub out_from : (lo hi c : ℤ) → pos 0 ≤ℤ out lo hi c
out_from lo hi c = go (lt_z c lo) (lt_z hi c) refl refl
  where
    first : lt_z c lo ≡ true → pos 0 ≤ℤ (lo -ℤ c)
    first e = omega (zl, diff lo c)

    second : lt_z hi c ≡ true → pos 0 ≤ℤ (c -ℤ hi)
    second e = omega (zl, diff c hi)

    go : (s t : Bool) → lt_z c lo ≡ s → lt_z hi c ≡ t → pos 0 ≤ℤ cond s (lo -ℤ c) (cond t (c -ℤ hi) (pos 0))
    go true t e f = first e
    go false true e f = second f
    go false false e f = record { le = tt }

pub out_in : (lo hi c : ℤ) → Within 2_000_000_000 lo → Within 2_000_000_000 hi → Within 2_000_000_000 c → Within 4_000_000_000 (out lo hi c)
out_in lo hi c h k l = go (lt_z c lo) (lt_z hi c)
  where
    go : (s t : Bool) → Within 4_000_000_000 (cond s (lo -ℤ c) (cond t (c -ℤ hi) (pos 0)))
    go true t = in_up (in-- h l) tt
    go false true = in_up (in-- l k) tt
    go false false = in_lit tt

pub square_fits : (k : ℕ) (z : ℤ) → pos k ≡ z → Within 4_000_000_000 z → Fits w64 (k * k)
square_fits k z e h =
    let l : k ≤ 4000000000 = subst (λ (x : ℤ). nat_abs x ≤ 4000000000) (sym e) h.abs in
    record { fits = omega (arith, mul-le-mul l l) }

-- |a - b| squared is not negative
pub size_from : (a b : Spot) → pos 0 ≤ℤ size a b
size_from a b = +-mono {a = pos 0} {c = pos 0} (sq-≥0 (a.x -ℤ b.x)) (sq-≥0 (a.y -ℤ b.y))

-- what a square of outsideness is, of ends that are equal
pub out_same : (r : ℕ) (x x' y y' z z' : ℤ) → x ≡ x' → y ≡ y' → z ≡ z' → pos r ≡ sq (out x y z) → pos r ≡ sq (out x' y' z')
out_same r x x' y y' z z' e f g h = h ∙ (ap (λ (v : ℤ). sq (out v y z)) e ∙ ap (λ (v : ℤ). sq (out x' v z)) f ∙ ap (λ (v : ℤ). sq (out x' y' v)) g)

module _ (a b : Spot) (o : Boxed) (d x y : ℕ) (ed : pos d ≡ size a b)
    (ex : pos x ≡ sq (out (pos 2 *ℤ o.xmin) (pos 2 *ℤ o.xmax) (a.x +ℤ b.x)))
    (ey : pos y ≡ sq (out (pos 2 *ℤ o.ymin) (pos 2 *ℤ o.ymax) (a.y +ℤ b.y))) where
  far_is : ltb d (x + y) ≡ far a b o
  unfolding far
  far_is = ap (λ (z : ℤ). lt_z z (pos (x + y))) ed ∙ ap (λ (z : ℤ). lt_z (size a b) (z +ℤ pos y)) ex ∙ ap (λ (z : ℤ). lt_z (size a b) (sq (out (pos 2 *ℤ o.xmin) (pos 2 *ℤ o.xmax) (a.x +ℤ b.x)) +ℤ z)) ey

  pub far_by_x : d < x → true ≡ far a b o
  far_by_x h = sym (lt-ltb d (x + y) (omega arith)) ∙ far_is

  pub far_by_y : x ≤ d → ltb (d - x) y ≡ far a b o
  far_by_y h = test_iff _ _ (λ e. lt-ltb d (x + y) (omega (arith, ltb-true (d - x) y e))) (λ e. lt-ltb (d - x) y (omega (arith, ltb-true d (x + y) e))) ∙ far_is
