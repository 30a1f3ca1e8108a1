-- `chamber::keep_pairs` meets its contract. The loop's invariant is `Keeping`: the positions before i are settled. Assumes nothing.
use Prim.Native.Nat.{◌-◌}
use Rattle.sheet.specs.Places.{points_of}
use Rattle.list.specs.RingList.{pair_by}
use Rattle.list.specs.Terms.{profile_for}
use Rattle.chamber.specs.Sized.{small_for}
use Rattle.chamber.specs.Chamber.{Right}
use Rattle.chamber.proofs.KeepLaws.{Keeping}
use Rattle.chamber.proofs.keep_pairs.Given as goal

abbrev pub invariant-loop-i : goal.invariant-loop-i
invariant-loop-i l =
    Keeping (small_for l.largest l.terms (points_of l.p.words.now) (points_of l.q.words.now)) (pair_by (profile_for l.terms) (points_of l.p.words.now) (points_of l.q.words.now)) l.j l.p.n l.initial.bits l.bits l.count l.i
    × Right l.terms l.p.words.now l.q.words.now l.a l.seen.last.known l.seen.last.at l.seen.last.clear
    × Right l.terms l.p.words.now l.q.words.now l.a l.seen.other.known l.seen.other.at l.seen.other.clear

abbrev pub decreases-loop-i : goal.decreases-loop-i
decreases-loop-i l = l.p.n - l.i
