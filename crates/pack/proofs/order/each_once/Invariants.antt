use lib.ListN.{length}
use Rattle.pack.proofs.SeenLaws.{Seen}
use Rattle.pack.proofs.order.each_once.Given as goal

abbrev pub invariant-loop-w : goal.invariant-loop-w
invariant-loop-w l = Seen l.o l.n (length l.initial.seen) l.seen l.w-index
