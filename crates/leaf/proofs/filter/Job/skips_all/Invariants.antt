-- `leaf::filter::skips_all` meets its contract: the chambers before k skip the box. Assumes nothing.
use mathlib.Core.Path.{◌≡◌}
use mathlib.Core.Bool.{true}
use Rattle.words.specs.All.{all_b}
use Rattle.leaf.specs.LeafWalk.{chamber_spot, skips}
use Rattle.leaf.proofs.filter.Job.skips_all.Given as goal

abbrev pub invariant-loop-k : goal.invariant-loop-k
invariant-loop-k l = all_b l.k (skips (chamber_spot l.self.q.words.now l.self.v) l.self.count l.self.words l.self.p.words.now l.self.p.n l.u l.bits) ≡ true
