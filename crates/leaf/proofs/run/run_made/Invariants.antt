-- `leaf::run::run_made` meets its contract. The loop's invariant is `Going`: the bits before `at` are settled, and `at` is the next kept one. Assumes nothing.
use Prim.Native.Nat.{◌-◌}
use Rattle.leaf.proofs.RunCode.{Going}
use Rattle.leaf.proofs.run.run_made.Given as goal

abbrev pub invariant-loop-at : goal.invariant-loop-at
invariant-loop-at l = Going l.p.words.now l.q.words.now l.v l.words l.bits l.count l.opened l.at

abbrev pub decreases-loop-at : goal.decreases-loop-at
decreases-loop-at l = l.end - l.at
