-- `seeds::guess::leaf_near` answers a node, and ends, since the level falls. Assumes nothing.
use mathlib.Core.Path.{◌≡◌}
use Prim.Native.Nat.{◌<◌}
use Rattle.sheet.specs.Nodes.{level_of}
use Rattle.seeds.proofs.guess.leaf_near.Given as goal

abbrev pub invariant-loop-level : goal.invariant-loop-level
invariant-loop-level l = (l.at < l.w.m) × (l.level ≡ level_of l.w.words.now l.w.n l.at)

abbrev pub decreases-loop-level : goal.decreases-loop-level
decreases-loop-level l = l.level
