-- `ranked::visits::of_chamber` meets its contract. The loop's invariant is `Picking`: what is left of the chamber's pairs. Assumes nothing.
use Prim.Native.Nat.{◌-◌}
use Rattle.sheet.specs.Places.{points_of}
use Rattle.list.specs.RingList.{pair_by}
use Rattle.list.specs.Terms.{profile_for}
use Rattle.chamber.specs.Sized.{small_for}
use Rattle.ranked.specs.Visits.{with_score}
use Rattle.ranked.proofs.VisitsLaws.{Picking}
use Rattle.ranked.proofs.visits.of_chamber.Given as goal

abbrev pub invariant-loop-i : goal.invariant-loop-i
invariant-loop-i l =
    Picking (small_for l.largest l.terms (points_of l.p.words.now) (points_of l.q.words.now)) (pair_by (profile_for l.terms) (points_of l.p.words.now) (points_of l.q.words.now)) (with_score (points_of l.p.words.now) l.p_scores l.own) l.k l.j l.p.n l.initial.r l.r l.i

abbrev pub decreases-loop-i : goal.decreases-loop-i
decreases-loop-i l = l.p.n - l.i
