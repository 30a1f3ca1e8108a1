-- `leaf::filter::leaf_node` meets its contract. Its measure is the level of the node. The loop's invariant is `Rounds`: what is left to do of the nodes that it covers.
-- Assumes nothing.
use Prim.Native.Nat.{◌-◌}
use Rattle.sheet.specs.Nodes.{level_of}
use Rattle.leaf.specs.LeafWalk.{chamber_spot}
use Rattle.leaf.proofs.FilterCode.{Rounds}
use Rattle.leaf.proofs.filter.Job.+leaf_node.Given as goal

abbrev pub decreases-leaf_node : goal.decreases-leaf_node
decreases-leaf_node l = level_of l.self.p.words.now l.self.p.n l.u

abbrev pub invariant-loop-i : goal.invariant-loop-i
invariant-loop-i l = Rounds (chamber_spot l.self.q.words.now l.self.v) l.self.count l.self.words l.self.p.words.now l.self.p.n (l.level - 1) l.first l.count l.initial.bits l.initial.so l.bits l.so l.i
