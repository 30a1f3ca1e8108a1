-- `outward::filter::near_kept` meets its contract. The loop's invariant is `Sifting`: what is left to do of the walk. Assumes nothing.
use Rattle.outward.proofs.WalkCode.{load}
use Rattle.outward.proofs.FilterCode.{Sifting}
use Rattle.outward.proofs.filter.near_kept.Given as goal

abbrev pub invariant-loop-count : goal.invariant-loop-count
invariant-loop-count l = Sifting l.w.words.now l.w.n l.w.m l.q l.initial.bits l.initial.waiting l.bits l.waiting l.count l.opened

abbrev pub decreases-loop-count : goal.decreases-loop-count
decreases-loop-count l = load l.w.words.now l.w.n l.w.m l.q l.waiting l.count
