-- `leaf::filter::weigh_all` meets its contract. The loop's invariant is `Turned`: what is left to do of the chambers. Assumes nothing.
use Rattle.leaf.specs.LeafWalk.{chamber_spot, weigh}
use Rattle.leaf.proofs.FilterCode.{Turned}
use Rattle.leaf.proofs.filter.Job.weigh_all.Given as goal

abbrev pub invariant-loop-k : goal.invariant-loop-k
invariant-loop-k l = Turned (weigh (chamber_spot l.self.q.words.now l.self.v) l.self.count l.self.words l.self.p.words.now l.self.p.n l.i) 0 l.self.count l.initial.bits l.bits l.k
