-- `ranked::visits::greatest` meets its contract. The loop's invariant is `Topping`: no score before it is greater. Assumes nothing.
use lib.ListN.{length}
use Rattle.ranked.proofs.ScoresLaws.{Topping}
use Rattle.ranked.proofs.visits.greatest.Given as goal

abbrev pub invariant-loop-x : goal.invariant-loop-x
invariant-loop-x l = Topping l.scores (length l.scores) l.top l.x-index
