-- `walk::ring::ring_node` meets its contract. Its measure is the level of the node. The loop's invariant is `Rounds`: what is left to do of the nodes that it covers.
-- Assumes nothing.
use Prim.Native.Nat.{◌-◌}
use Rattle.plane.specs.Profile.{profile_of}
use Rattle.sheet.specs.Nodes.{level_of}
use Rattle.walk.proofs.RingCode.{Rounds}
use Rattle.walk.proofs.ring.+ring_node.Given as goal

abbrev pub decreases-ring_node : goal.decreases-ring_node
decreases-ring_node l = level_of l.w.words.now l.w.n l.j

abbrev pub invariant-loop-i : goal.invariant-loop-i
invariant-loop-i l = Rounds (profile_of l.grid) l.set l.w.words.now l.w.n l.a l.b (l.level - 1) l.first l.count l.initial.c l.c l.i
