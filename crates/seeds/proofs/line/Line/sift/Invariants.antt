-- `seeds::line::Line::sift` meets its contract: all through, each dropper is one of those at the start. Assumes nothing.
use mathlib.Core.Path.{◌≡◌}
use Prim.Native.Nat.{◌≤◌}
use Rattle.seeds.specs.Line.{Lined, Among}
use Rattle.seeds.proofs.line.Line.sift.Given as goal

abbrev pub invariant-loop-k : goal.invariant-loop-k
invariant-loop-k l = Lined (Among l.initial.self) l.self × (l.to ≤ l.k) × (l.self.count ≡ l.initial.self.count)
