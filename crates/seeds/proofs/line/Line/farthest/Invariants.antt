-- `seeds::line::Line::farthest` answers one of the 24. Assumes nothing.
use Prim.Native.Nat.{◌<◌}
use Rattle.seeds.proofs.line.Line.farthest.Given as goal

abbrev pub invariant-loop-k : goal.invariant-loop-k
invariant-loop-k l = l.far < 24
