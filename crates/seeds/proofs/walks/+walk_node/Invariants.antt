-- `seeds::walks::walk_node` meets its contract. Its measure is the level of the node. The loop's invariant: after i turns every place below the first i nodes that it covers is dealt
-- with, and each dropper is one of those at the start, or a record of the sheet stands there. Assumes nothing.
use mathlib.Core.Path.{◌≡◌}
use Prim.Native.Nat.{ℕ, ◌+◌, ◌-◌, ◌≤◌, ◌<◌}
use lib.ListN.{length}
use Rattle.sheet.specs.Nodes.{level_of}
use Rattle.sheet.specs.Boxes.{Below}
use Rattle.seeds.specs.Line.{Lined, Known}
use Rattle.seeds.specs.Covers.{On, Deals}
use Rattle.seeds.proofs.walks.+walk_node.Given as goal

abbrev pub decreases-walk_node : goal.decreases-walk_node
decreases-walk_node l = level_of l.w.words.now l.w.n l.j

abbrev pub invariant-loop-i : goal.invariant-loop-i
invariant-loop-i l =
    Lined (Known (On l.w.words.now l.w.n) l.initial.so.line) l.so.line
    × Deals (Known (On l.w.words.now l.w.n) l.initial.so.line) l.w.words.now l.w.n l.q (λ k. (v : ℕ) × (l.first ≤ v) × (v < l.first + l.i) × Below l.w.words.now l.w.n (l.level - 1) v k) l.initial.bits l.bits
    × (length l.bits ≡ length l.initial.bits)
