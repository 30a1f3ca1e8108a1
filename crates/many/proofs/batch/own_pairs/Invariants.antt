-- `many::batch::own_pairs` meets its contract. The loop's invariant: the slots hold what was put so far, and `Course` says what is left to do. Assumes nothing.
use mathlib.Core.Path.{◌≡◌}
use mathlib.Core.List.{[]}
use Prim.Native.Nat.{◌-◌}
use lib.ListN.{length}
use Rattle.ring.specs.Lent.{need}
use Rattle.many.specs.Many.{own_pairs_no, own_list}
use Rattle.many.proofs.PairsLaws.{put, Course}
use Rattle.many.proofs.batch.own_pairs.Given as goal

abbrev pub invariant-loop-st : goal.invariant-loop-st
invariant-loop-st l =
    (l.slots ≡ put l.fn.slots (own_list l.s l.fn.key l.fn.largest l.fn.grid) l.st.count)
    × Course l.s l.s [] (own_pairs_no l.s l.fn.key l.fn.largest l.fn.grid (length l.fn.bits)) (need l.s) (own_list l.s l.fn.key l.fn.largest l.fn.grid) (length l.fn.slots) l.fn.bits l.bits l.st
    × (length l.bits ≡ length l.fn.bits)

abbrev pub decreases-loop-st : goal.decreases-loop-st
decreases-loop-st l = length l.fn.slots - l.st.count
