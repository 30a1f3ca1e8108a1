-- `ranked::busiest::has_at_most` meets its contract. The loop's invariant is `Counting`: those met before i and those from i on are all that are kept. Assumes nothing.
use Prim.Native.Nat.{◌-◌}
use Rattle.ranked.proofs.RanksLaws.{Counting}
use Rattle.ranked.proofs.busiest.has_at_most.Given as goal

abbrev pub invariant-loop-i : goal.invariant-loop-i
invariant-loop-i l = Counting l.bits l.most l.left l.i

abbrev pub decreases-loop-i : goal.decreases-loop-i
decreases-loop-i l = l.n - l.i
