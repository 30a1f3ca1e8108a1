-- `many::batch::pairs` meets its contract. The loop's invariant: the slots hold what was put so far, and `Course` says what is left to do. Assumes nothing.
use mathlib.Core.Path.{◌≡◌}
use Prim.Native.Nat.{◌-◌}
use lib.ListN.{length}
use Rattle.ring.specs.Lent.{need}
use Rattle.many.specs.Many.{pairs_no, pairs_list}
use Rattle.many.proofs.PairsLaws.{put, Course}
use Rattle.many.proofs.batch.pairs.Given as goal

abbrev pub invariant-loop-s : goal.invariant-loop-s
invariant-loop-s l =
    (l.slots ≡ put l.fn.slots (pairs_list l.p l.q l.owners l.fn.wanted) l.s.count)
    × Course l.p l.q l.owners (pairs_no l.p l.q l.owners l.fn.wanted (length l.fn.bits)) (need l.p) (pairs_list l.p l.q l.owners l.fn.wanted) (length l.fn.slots) l.fn.bits l.bits l.s
    × (length l.bits ≡ length l.fn.bits)

abbrev pub decreases-loop-s : goal.decreases-loop-s
decreases-loop-s l = length l.fn.slots - l.s.count
