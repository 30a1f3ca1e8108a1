-- `walk::ring::ring_places` meets its contract. The loop's invariant is `Leaf`: what is left to do of the leaf's places. Assumes nothing.
use Rattle.plane.specs.Profile.{profile_of}
use Rattle.walk.proofs.RingCode.{Leaf}
use Rattle.walk.proofs.ring.ring_places.Given as goal

abbrev pub invariant-loop-i : goal.invariant-loop-i
invariant-loop-i l = Leaf (profile_of l.grid) l.set l.w.words.now l.w.n l.a l.b l.first l.count l.opened l.i
