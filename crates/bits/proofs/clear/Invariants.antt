-- `bits::clear` meets its contract. The loop's invariant is `Blank`: the words before it are 0. Assumes nothing.
use Rattle.bits.proofs.SetLaws.{Blank}
use Rattle.bits.proofs.clear.Given as goal

abbrev pub invariant-loop-word : goal.invariant-loop-word
invariant-loop-word l = Blank l.initial.bits l.bits l.word-index
