-- `outward::order::first_points` meets its contract. The loop's invariant is `Giving`: what is left to do of the walk, and the positions so far. Assumes nothing.
use Prim.Native.Nat.{◌≤◌}
use Rattle.outward.proofs.WalkCode.{load}
use Rattle.outward.proofs.OrderCode.{Giving}
use Rattle.outward.proofs.order.first_points.Given as goal

abbrev pub invariant-loop-count : goal.invariant-loop-count
invariant-loop-count l = Giving l.w.words.now l.w.n l.w.m l.q l.initial.waiting l.waiting l.count l.at l.got × (l.got ≤ l.size)

abbrev pub decreases-loop-count : goal.decreases-loop-count
decreases-loop-count l = load l.w.words.now l.w.n l.w.m l.q l.waiting l.count
