-- `walk::filter::filter_node` meets its contract. Its measure is the level of the node. The loop's invariant is `Rounds`: what is left to do of the nodes that it covers;
-- and `Tries`: what is tried first is right.
-- Assumes nothing.
use mathlib.Core.Path.{◌≡◌}
use Prim.Native.Nat.{◌-◌}
use lib.ListN.{length}
use Rattle.sheet.specs.Nodes.{level_of}
use Rattle.walk.specs.Latest.{Tries}
use Rattle.walk.proofs.FilterCode.{Rounds}
use Rattle.walk.proofs.filter.+filter_node.Given as goal

abbrev pub decreases-filter_node : goal.decreases-filter_node
decreases-filter_node l = level_of l.w.words.now l.w.n l.j

abbrev pub invariant-loop-i : goal.invariant-loop-i
invariant-loop-i l = Rounds l.w.words.now l.w.n l.q (l.level - 1) l.first l.count l.initial.bits l.initial.c.opened l.bits l.c.opened l.i × Tries l.bits l.w.n l.latest l.c.line.last l.c.line.count × (length l.latest ≡ length l.initial.latest)
