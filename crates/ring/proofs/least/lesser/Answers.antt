-- `ring::least::lesser` meets its contract. Assumes nothing.
use mathlib.Core.Path.{refl}
use borrow.Author.Tests.{le-leb, lt-leb}
use Rattle.join.specs.Threshold.{smaller}
use Rattle.ring.proofs.least.lesser.Goals as goal

pub returns-then-t-count : goal.returns-then-t-count
unfolding smaller
returns-then-t-count c = let a = c.args in rw (le-leb a.t a.count c.if-t-count.true) refl

pub returns : goal.returns
unfolding smaller
returns c = let a = c.args in rw (lt-leb a.t a.count c.if-t-count.false) refl
