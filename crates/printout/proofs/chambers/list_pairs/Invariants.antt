-- `printout::chambers::list_pairs` meets its contract. The loop's invariant: so many pairs were listed up to chamber j. Assumes nothing.
use mathlib.Core.Path.{◌≡◌}
use Prim.Native.Nat.{◌≤◌}
use lib.ListN.{length}
use Rattle.sheet.specs.Places.{points_of}
use Rattle.list.specs.RingList.{ring_pair, pair_at}
use Rattle.chamber.proofs.ListedLaws.{Counting}
use Rattle.printout.proofs.chambers.list_pairs.Given as goal

abbrev pub invariant-loop-j : goal.invariant-loop-j
invariant-loop-j g l =
    (length l.out ≡ 131072) × (length l.bits ≡ 16) × (l.at ≤ 131072) × Counting (ring_pair (points_of l.p.words.now) (points_of l.q.words.now)) (pair_at (points_of l.p.words.now) (points_of l.q.words.now)) l.p.n l.q.n l.total l.j
