use Prim.Native.Nat.{◌≤◌}
use Rattle.pack.proofs.PlanLaws.{Counted}
use Rattle.pack.proofs.tree.nodes_for.Given as goal

abbrev pub invariant-loop-k : goal.invariant-loop-k
invariant-loop-k l = (l.k ≤ 60000) × Counted l.n l.k l.m

abbrev pub decreases-loop-k : goal.decreases-loop-k
decreases-loop-k l = l.k
