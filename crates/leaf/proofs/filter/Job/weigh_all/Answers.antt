use native.Mathlib.Omega.{arith}
use Rattle.leaf.proofs.FilterCode.{turned_step, turned_end}
use Rattle.leaf.proofs.filter.Job.weigh_all.Goals as goal

pub loop-k-preserved : goal.loop-k-preserved
loop-k-preserved c =
    turned_step _ _ _ _ _ _ c.loop-k.k c.loop-k.k (omega arith) c.loop-k-test.true c.loop-k.invariant c.weigh_at.auto.bits c.weigh_at.ensures

pub returns : goal.returns
returns c = turned_end _ _ _ _ _ c.loop-k.k c.loop-k-test.false c.loop-k.invariant
