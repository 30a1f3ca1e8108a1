-- `many::check::key_no` meets its contract. Assumes nothing.
use mathlib.Core.Path.{ap}
use mathlib.Core.Bool.{not}
use Rattle.words.specs.First.{given}
use Rattle.ring.specs.Page.{key_no}
use Rattle.many.proofs.check.key_no.Goals as goal

pub returns-then-not-key : goal.returns-then-not-key
unfolding key_no given
returns-then-not-key c = rw (ap not c.if-not-key.true)

pub returns : goal.returns
unfolding key_no given
returns c = rw (ap not c.if-not-key.false)
