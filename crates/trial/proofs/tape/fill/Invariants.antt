-- `trial::tape::fill` leaves the places from n on as they were. Assumes nothing.
use Rattle.std.proofs.Common.{◌≡◌, drop}
use Rattle.trial.proofs.tape.fill.Given as goal

abbrev pub invariant-loop-i : goal.invariant-loop-i
invariant-loop-i g l = drop l.n l.out ≡ drop l.n l.initial.out
