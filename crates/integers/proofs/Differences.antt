-- Differences as unsigned numbers: which is the greater, and that one that is not negative may be cast. Assumes nothing.
use mathlib.Core.Path.{◌≡◌, sym, subst}
use Prim.Native.Nat.{◌+◌}
use native.Mathlib.Omega.{arith}
use lib.Dec.{T}
use mathlib.Core.Bool.{true, false}
use lib.IntN.{ℤ, pos, negsuc, nat_abs, ◌-ℤ◌}
use lib.Signed.{lt_z, non_neg, ◌≤ℤ◌, yes_non_neg}
use mir.Syntax.{w64}
use mir.Val.{Fits}
use Rattle.integers.specs.Bounds.{Within}
use Rattle.integers.proofs.Order.{zl, diff, pp, nn}

pub abs_swap : (a b : ℤ) → nat_abs (b -ℤ a) ≡ nat_abs (a -ℤ b)
abs_swap a b = flip (a -ℤ b) (b -ℤ a) (omega (arith, diff a b, diff b a))
  where
    flip : (x y : ℤ) → pp x + pp y ≡ nn x + nn y → nat_abs y ≡ nat_abs x
    flip (pos m) (pos n) h = omega arith
    flip (pos m) (negsuc n) h = omega arith
    flip (negsuc m) (pos n) h = omega arith
    flip (negsuc m) (negsuc n) h = absurd (omega arith)

pub less_from : (a b : ℤ) → lt_z a b ≡ true → pos 0 ≤ℤ (b -ℤ a)
less_from a b e = omega (zl, diff b a)

pub not_less_from : (a b : ℤ) → lt_z a b ≡ false → pos 0 ≤ℤ (a -ℤ b)
not_less_from a b e = omega (zl, diff a b)

pub cast_diff : {x y : ℤ} → x ≡ y → Within 8000000000 y → pos 0 ≤ℤ y → T (non_neg x) × Fits w64 (nat_abs x)
cast_diff {x} {y} e w h = subst (λ (z : ℤ). T (non_neg z) × Fits w64 (nat_abs z)) (sym e) (yes_non_neg h, record { fits = omega (arith, w.abs) })
