-- `chamber::number::largest_no` meets its contract. Assumes nothing.
use mathlib.Core.Path.{sym}
use borrow.Author.Tests.{lt-ltb, le-ltb}
use Rattle.words.proofs.FirstLaws.{given_no, given_yes}
use Rattle.chamber.proofs.number.largest_no.Goals as goal

pub returns-then-largest-gt8000000000000000000 : goal.returns-then-largest-gt8000000000000000000
returns-then-largest-gt8000000000000000000 c = sym (given_yes 40 (lt-ltb _ _ c.if-largest-gt8000000000000000000.true))

pub returns : goal.returns
returns c = sym (given_no 40 (le-ltb _ _ c.if-largest-gt8000000000000000000.false))
