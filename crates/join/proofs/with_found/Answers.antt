-- `join::with_found` meets its contract. Assumes nothing.
use borrow.Author.Tests.{lt-ltb, le-ltb}
use Rattle.join.specs.Maker.{found}
use Rattle.join.proofs.with_found.Goals as goal

pub returns-then-at-size : goal.returns-then-at-size
unfolding found
returns-then-at-size c = simp (lt-ltb _ _ c.if-at-size.true)

pub returns : goal.returns
unfolding found
returns c = simp (le-ltb _ _ c.if-at-size.false)
