-- `brute::next` meets its contract. Assumes nothing.
use Rattle.brute.proofs.Runs.{Passed}
use Rattle.brute.proofs.next.Given as goal

abbrev pub invariant-loop-row : goal.invariant-loop-row
invariant-loop-row l = Passed l.grid l.p l.q l.j l.i l.row l.from
