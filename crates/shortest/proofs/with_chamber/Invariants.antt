-- `shortest::with_chamber` meets its contract. The loop's invariant is `Gathering`: what is left of the chamber's pairs. Assumes nothing.
use mathlib.Core.Path.{◌≡◌}
use mathlib.Core.Bool.{true}
use Prim.Native.Nat.{◌-◌, ◌<◌}
use Rattle.sheet.specs.Places.{points_of}
use Rattle.bits.specs.Set.{kept}
use Rattle.list.specs.RingList.{pair_at}
use Rattle.list.specs.Terms.{full}
use Rattle.chamber.specs.Sized.{small_for}
use Rattle.shortest.proofs.SearchLaws.{Gathering}
use Rattle.shortest.proofs.with_chamber.Given as goal

abbrev pub invariant-loop-i : goal.invariant-loop-i
invariant-loop-i l = Gathering (small_for l.largest full (points_of l.p.words.now) (points_of l.q.words.now)) (pair_at (points_of l.p.words.now) (points_of l.q.words.now)) l.k l.j l.p.n l.initial.r l.r l.i × (l.i < l.p.n → kept l.bits l.i ≡ true)

abbrev pub decreases-loop-i : goal.decreases-loop-i
decreases-loop-i l = l.p.n - l.i
