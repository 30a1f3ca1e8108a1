use borrow.Author.Tests.{lt-ltb, le-ltb}
use Rattle.pack.specs.Work.{follow}
use Rattle.pack.proofs.tree.follow.Goals as goal

pub returns-then-d : goal.returns-then-d
unfolding follow
returns-then-d c = rw (lt-ltb _ _ c.if-d.true)

pub returns : goal.returns
unfolding follow
returns c = rw (le-ltb _ _ c.if-d.false)
