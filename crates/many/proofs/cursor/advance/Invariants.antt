-- `many::cursor::advance` meets its contract. The loop's invariant is `Going`: what is left of the list is the same. Assumes nothing.
use mathlib.Core.Path.{◌≡◌}
use Prim.Native.Nat.{◌-◌}
use lib.ListN.{length}
use Rattle.sheet.specs.Places.{points_of}
use Rattle.list.specs.RingList.{pair_by}
use Rattle.list.specs.Terms.{profile_for}
use Rattle.chamber.specs.Sized.{listed_to}
use Rattle.many.proofs.CursorLaws.{Going}
use Rattle.many.proofs.cursor.advance.Given as goal

abbrev pub invariant-loop-i : goal.invariant-loop-i
invariant-loop-i l =
    Going (listed_to l.largest l.terms l.owners (points_of l.p.words.now) (points_of l.q.words.now)) (pair_by (profile_for l.terms) (points_of l.p.words.now) (points_of l.q.words.now)) l.key l.p.n l.q.n l.initial.at l.initial.i l.initial.next l.bits l.at l.i l.next
    × (length l.bits ≡ length l.initial.bits)

abbrev pub decreases-loop-i : goal.decreases-loop-i
decreases-loop-i l = l.q.n - l.next
