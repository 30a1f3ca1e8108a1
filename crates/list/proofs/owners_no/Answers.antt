-- `list::owners_no` meets its contract. Assumes nothing.
use mathlib.Core.Path.{ap, sym, ◌∙◌}
use mathlib.Core.Bool.{not}
use borrow.Author.Tests.{eqb-true, eqb-false}
use Rattle.list.proofs.ContractorLaws.{owners_none, owners_some, owners_bad, owners_good}
use Rattle.list.proofs.owners_no.Goals as goal

pub returns-then-is_empty : goal.returns-then-is_empty
returns-then-is_empty c = owners_none _ _ _ c.if-c-eq2.true (eqb-true _ _ (sym c.is_empty.ensures ∙ c.if-is_empty.true))

pub returns-then-c-eq2 : goal.returns-then-c-eq2
returns-then-c-eq2 c = owners_some _ _ _ c.if-c-eq2.true (eqb-false _ _ (sym c.is_empty.ensures ∙ c.if-is_empty.false))

pub returns-then-not-is_one_each : goal.returns-then-not-is_one_each
returns-then-not-is_one_each c = owners_bad _ _ _ c.if-c-eq2.false _ c.is_one_each.ensures (ap not c.if-not-is_one_each.true)

pub returns : goal.returns
returns c = owners_good _ _ _ c.if-c-eq2.false _ c.is_one_each.ensures (ap not c.if-not-is_one_each.false)
