-- `walk::filter::filter_places` meets its contract. The loop's invariant is `Leaf`: what is left to do of the leaf's places; and `Tries`: what is tried first is right.
-- Assumes nothing.
use mathlib.Core.Path.{◌≡◌}
use lib.ListN.{length}
use Rattle.walk.specs.Latest.{Tries}
use Rattle.walk.proofs.FilterCode.{Leaf}
use Rattle.walk.proofs.filter.filter_places.Given as goal

abbrev pub invariant-loop-i : goal.invariant-loop-i
invariant-loop-i l = Leaf l.w.words.now l.w.n l.q l.first l.count l.initial.bits l.bits l.i × Tries l.bits l.w.n l.latest l.on.last l.on.count × (length l.latest ≡ length l.initial.latest)
