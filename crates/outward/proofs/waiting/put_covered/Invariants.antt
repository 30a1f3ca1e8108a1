-- `outward::waiting::put_covered` meets its contract. The loop's invariant is `Filled`: i of what the node covers are in. Assumes nothing.
use Rattle.outward.proofs.WaitingLaws.{Filled}
use Rattle.outward.proofs.waiting.put_covered.Given as goal

abbrev pub invariant-loop-i : goal.invariant-loop-i
invariant-loop-i l = Filled l.w.words.now l.w.n l.w.m l.q l.j l.count l.first l.more l.initial.waiting l.waiting l.i
