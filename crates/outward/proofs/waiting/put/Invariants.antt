-- `outward::waiting::put` meets its contract. The loop's invariant is `Moved`: x is on its way up, and is to be written at k or above. Assumes nothing.
use Rattle.outward.proofs.WaitingLaws.{Moved}
use Rattle.outward.proofs.waiting.put.Given as goal

abbrev pub invariant-loop-k : goal.invariant-loop-k
invariant-loop-k l = Moved l.w.words.now l.w.n l.w.m l.q l.x l.e l.count l.initial.waiting l.waiting l.k

abbrev pub decreases-loop-k : goal.decreases-loop-k
decreases-loop-k l = l.k
