-- `seeds::guess::node_near` answers one of the nodes. Assumes nothing.
use Prim.Native.Nat.{◌+◌, ◌≤◌, ◌<◌}
use Rattle.seeds.proofs.guess.node_near.Given as goal

abbrev pub invariant-loop-k : goal.invariant-loop-k
invariant-loop-k l = (l.first ≤ l.near) × (l.near < l.first + l.count)
