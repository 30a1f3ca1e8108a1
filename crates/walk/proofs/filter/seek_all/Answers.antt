use native.Mathlib.Omega.{arith}
use Rattle.bits.proofs.SomeLaws.{seek_end}
use Rattle.walk.proofs.filter.seek_all.Goals as goal

pub returns : goal.returns
returns c = seek_end _ _ _ c.loop-k.k (omega (arith, c.loop-k-test.false)) c.loop-k.invariant
