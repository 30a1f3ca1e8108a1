use mathlib.Core.Path.{ap}
use mathlib.Core.Bool.{not}
use Rattle.book.proofs.CoreLaws.{testing_stop, testing_on, testing_end}
use Rattle.book.proofs.pairs_rise.Goals as goal

pub returns-then-not-is_pair-is_after : goal.returns-then-not-is_pair-is_after
returns-then-not-is_pair-is_after c =
    testing_stop _ _ _ _ _ c.loop-v-test.true c.loop-v.invariant _ c.key_of-at.ensures _ _ c.is_pair.ensures c.is_after.ensures (ap not c.if-not-is_pair-is_after.true)

pub loop-v-preserved : goal.loop-v-preserved
loop-v-preserved c =
    testing_on _ _ _ _ _ c.loop-v-test.true c.loop-v.invariant _ c.key_of-at.ensures _ _ c.is_pair.ensures c.is_after.ensures (ap not c.if-not-is_pair-is_after.false)

pub returns : goal.returns
returns c = testing_end _ _ _ _ _ c.loop-v-test.false c.loop-v.invariant
