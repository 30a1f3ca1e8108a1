-- `list::contractor_no` meets its contract. Assumes nothing.
use mathlib.Core.Bool.{not}
use mathlib.Core.Path.{ap, sym}
use Rattle.words.proofs.FirstLaws.{given_no, given_yes}
use Rattle.list.specs.Pages.{contractor_no}
use Rattle.list.proofs.contractor_no.Goals as goal

pub returns-then-not-c-own : goal.returns-then-not-c-own
unfolding contractor_no
returns-then-not-c-own c = sym (given_yes _ (ap not c.if-not-c-own.true))

pub returns : goal.returns
unfolding contractor_no
returns c = sym (given_no 27 (ap not c.if-not-c-own.false))
