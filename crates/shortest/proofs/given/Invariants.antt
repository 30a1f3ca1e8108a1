-- `shortest::given` meets its contract. The loop's invariant: `Going`, what is left of the list; and the words lent are as many as they were.
-- Assumes nothing.
use mathlib.Core.Path.{◌≡◌}
use lib.ListN.{length}
use Rattle.sheet.specs.Places.{points_of}
use Rattle.list.specs.RingList.{ring_pair, pair_at}
use Rattle.shortest.proofs.SearchLaws.{Going}
use Rattle.shortest.proofs.given.Given as goal

abbrev pub invariant-loop-j : goal.invariant-loop-j
invariant-loop-j l = (length l.bits ≡ length l.initial.bits) × Going (ring_pair (points_of l.p.words.now) (points_of l.q.words.now)) (pair_at (points_of l.p.words.now) (points_of l.q.words.now)) l.k l.p.n l.q.n l.g l.j
