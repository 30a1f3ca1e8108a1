-- `chamber::clear::clear_below` meets its contract. Its measure is the level of the node. The loop's invariant: after i turns no record below the first i nodes that it covers blocks. Assumes nothing.
use Prim.Native.Nat.{ℕ, ◌+◌, ◌-◌, ◌≤◌, ◌<◌}
use Rattle.plane.specs.Profile.{profile_of}
use Rattle.sheet.specs.Nodes.{level_of}
use Rattle.sheet.specs.Boxes.{Below}
use Rattle.chamber.specs.Clear.{Clears}
use Rattle.chamber.proofs.clear.+clear_below.Given as goal

abbrev pub decreases-clear_below : goal.decreases-clear_below
decreases-clear_below l = level_of l.w.words.now l.w.n l.j

abbrev pub invariant-loop-i : goal.invariant-loop-i
invariant-loop-i l = Clears (profile_of l.grid) l.w.words.now l.w.n l.a l.b (λ k. (v : ℕ) × (l.first ≤ v) × (v < l.first + l.i) × Below l.w.words.now l.w.n (l.level - 1) v k)
