use Rattle.std.proofs.Common.{◌≡◌, refl, sym, ap, subst, ◌∙◌, ◌∷◌, ℕ, ℤ, pos, negsuc, nat_abs, true, false, arith, le-ltb, to_z-of_z}
use Rattle.std.proofs.Math.Bool.{false≢true, true≢false}
use Rattle.std.specs.Int.Signed.{lt_z}
use Rattle.text.specs.Text.{Grown, decimal, signed_text}
use Rattle.text.proofs.Grow.{then, byte}
use Rattle.text.proofs.put_signed.Goals as goal

-- the text of a number below zero, and of another
minus : (z : ℤ) → lt_z z (pos 0) ≡ true → 45 ∷ decimal (nat_abs z) ≡ signed_text z
unfolding signed_text
minus (pos n) h = absurd (false≢true (sym (le-ltb n 0 (omega arith)) ∙ h))
minus (negsuc n) h = refl

plain : (z : ℤ) → lt_z z (pos 0) ≡ false → decimal (nat_abs z) ≡ signed_text z
unfolding signed_text
plain (pos n) h = refl
plain (negsuc n) h = absurd (true≢false h)

pub returns-then-z-lt0-clause-grown : goal.returns-then-z-lt0-clause-grown
returns-then-z-lt0-clause-grown c =
    let back = to_z-of_z c.ranges.z in
    subst (Grown c.args.out.now c.args.at c.put_decimal.new.out c.put_decimal.result)
    (ap (λ (n : ℕ). 45 ∷ decimal n) (c.size.ensures ∙ ap nat_abs back) ∙ minus c.args.z (subst (λ (x : ℤ). lt_z x (pos 0) ≡ true) back c.if-z-lt0.true))
    (then (byte c.put_byte-next.ensures.0 c.put_byte-next.ensures.1) c.put_decimal.ensures.grown)

pub returns-clause-grown : goal.returns-clause-grown
returns-clause-grown c =
    let back = to_z-of_z c.ranges.z in
    subst (Grown c.args.out.now c.args.at c.put_decimal-2.new.out c.put_decimal-2.result)
    (ap decimal (c.size-2.ensures ∙ ap nat_abs back) ∙ plain c.args.z (subst (λ (x : ℤ). lt_z x (pos 0) ≡ false) back c.if-z-lt0.false))
    c.put_decimal-2.ensures.grown
