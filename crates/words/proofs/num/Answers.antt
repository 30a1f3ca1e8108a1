-- `words::num` meets its contract.
-- Assumes nothing.
use Rattle.std.proofs.Common.{◌≡◌, refl, ap, ◌∙◌, ℤ, pos, negsuc, zero, suc, nat_abs, arith, lt-ltb}
use Rattle.std.specs.Int.{int_max}
use mir.Syntax.{w32}
use mir.ValLaws.{to_z-of_z}
use Rattle.words.specs.Word.{num}
use Rattle.words.proofs.Signs.{handed}
use Rattle.words.proofs.num.Goals as goal

raised : (x : ℤ) → nat_abs (int_max x (pos 0)) ≡ num x
unfolding num
raised (pos zero) = refl
raised (pos (suc n)) = rw (lt-ltb 0 (suc n) (omega arith)) refl
raised (negsuc n) = refl

pub returns-clause-value : goal.returns-clause-value
returns-clause-value c =
    ap nat_abs (handed c.max.type_inv (rw (to_z-of_z w32 _ c.ranges.x) at c.max.ensures.value)) ∙ raised c.args.x
