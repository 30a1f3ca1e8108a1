-- `outward::waiting::sink` meets its contract. The loop's invariant is `Sunk`: x is on its way down, and is to be written at k or below. Assumes nothing.
use Prim.Native.Nat.{◌-◌}
use Rattle.outward.proofs.WaitingLaws.{Sunk}
use Rattle.outward.proofs.waiting.sink.Given as goal

abbrev pub invariant-loop-k : goal.invariant-loop-k
invariant-loop-k l = Sunk l.w.words.now l.w.n l.w.m l.q l.x l.count l.initial.waiting l.waiting l.k

abbrev pub decreases-loop-k : goal.decreases-loop-k
decreases-loop-k l = l.count - l.k
