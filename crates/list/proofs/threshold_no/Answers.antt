-- `list::threshold_no` meets its contract. Assumes nothing.
use borrow.Author.Tests.{le-leb, lt-leb}
use Rattle.words.specs.First.{given}
use Rattle.list.specs.Pages.{threshold_no}
use Rattle.list.proofs.threshold_no.Goals as goal

pub returns-then-t-le60000 : goal.returns-then-t-le60000
unfolding threshold_no given
returns-then-t-le60000 c = rw (le-leb _ _ c.if-t-le60000.true)

pub returns-else-t-le60000 : goal.returns-else-t-le60000
unfolding threshold_no given
returns-else-t-le60000 c = rw (lt-leb _ _ c.if-t-le60000.false)
