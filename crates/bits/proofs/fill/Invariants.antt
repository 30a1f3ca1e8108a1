-- `bits::fill` meets its contract. The loop's invariant is `Filled`: just the positions before i are kept. Assumes nothing.
use Rattle.bits.proofs.FillLaws.{Filled}
use Rattle.bits.proofs.fill.Given as goal

abbrev pub invariant-loop-i : goal.invariant-loop-i
invariant-loop-i l = Filled l.initial.bits l.n l.bits l.i
