use native.Mathlib.Omega.{arith}
use Rattle.bits.proofs.SetLaws.{blank_end}
use Rattle.bits.proofs.clear.Goals as goal

pub returns : goal.returns
returns c = blank_end _ _ _ (omega arith) c.loop-word.invariant
