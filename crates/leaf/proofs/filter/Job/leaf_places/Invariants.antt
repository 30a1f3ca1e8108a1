-- `leaf::filter::leaf_places` meets its contract. The loop's invariant is `Turned`: what is left to do of the leaf's places. Assumes nothing.
use Rattle.leaf.specs.LeafWalk.{chamber_spot}
use Rattle.leaf.proofs.FilterCode.{place, Turned}
use Rattle.leaf.proofs.filter.Job.leaf_places.Given as goal

abbrev pub invariant-loop-i : goal.invariant-loop-i
invariant-loop-i l = Turned (place (chamber_spot l.self.q.words.now l.self.v) l.self.count l.self.words l.self.p.words.now l.self.p.n) l.first l.count l.initial.bits l.bits l.i
