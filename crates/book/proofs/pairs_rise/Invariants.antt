use Rattle.book.proofs.CoreLaws.{Testing}
use Rattle.book.proofs.pairs_rise.Given as goal

abbrev pub invariant-loop-v : goal.invariant-loop-v
invariant-loop-v l = Testing l.grid l.initial.last l.pairs l.last l.v-index
