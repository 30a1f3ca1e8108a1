-- `ring::least::least_no` meets its contract. Assumes nothing.
use mathlib.Core.Bool.{not}
use mathlib.Core.Path.{ap, sym}
use Rattle.words.proofs.FirstLaws.{given_no, given_yes}
use Rattle.ring.specs.Partners.{least_no}
use Rattle.ring.proofs.least.least_no.Goals as goal

pub returns-then-not-t : goal.returns-then-not-t
unfolding least_no
returns-then-not-t c = sym (given_yes _ (ap not c.if-not-t.true))

pub returns : goal.returns
unfolding least_no
returns c = sym (given_no 21 (ap not c.if-not-t.false))
