-- `leaf::filter::others_shut` meets its contract: the chambers before h are asked. Assumes nothing.
use mathlib.Core.Path.{◌≡◌}
use mathlib.Core.Bool.{true, not}
use Rattle.words.specs.All.{all_b}
use Rattle.plane.specs.Rule.{drops_box}
use Rattle.leaf.proofs.FilterCode.{other}
use Rattle.leaf.proofs.filter.Job.others_shut.Given as goal

abbrev pub invariant-loop-h : goal.invariant-loop-h
invariant-loop-h l = all_b l.h (λ i. not (other l.self.q.words.now l.self.v l.k (λ p. drops_box l.a p l.o) i)) ≡ true
