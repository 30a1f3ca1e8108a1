-- `many::all::count_all` meets its contract. The loop's invariant is `Counting`: what was counted, and what is left, is the list. Assumes nothing.
use mathlib.Core.Path.{◌≡◌}
use lib.ListN.{length}
use Rattle.sheet.specs.Places.{points_of}
use Rattle.list.specs.RingList.{pair_by}
use Rattle.list.specs.Terms.{profile_for}
use Rattle.chamber.specs.Sized.{listed_to}
use Rattle.chamber.proofs.ListedLaws.{Counting}
use Rattle.many.proofs.all.count_all.Given as goal

abbrev pub invariant-loop-j : goal.invariant-loop-j
invariant-loop-j l =
    Counting (listed_to l.largest l.terms l.owners (points_of l.p.words.now) (points_of l.q.words.now)) (pair_by (profile_for l.terms) (points_of l.p.words.now) (points_of l.q.words.now)) l.p.n l.q.n l.total l.j
    × (length l.bits ≡ length l.initial.bits)
