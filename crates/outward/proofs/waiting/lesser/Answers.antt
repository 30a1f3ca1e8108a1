-- `outward::waiting::lesser` meets its contract. Assumes nothing.
use mathlib.Core.Path.{sym, ◌∙◌}
use Rattle.outward.proofs.WaitingLaws.{lesser_one, lesser_first, lesser_second}
use Rattle.outward.proofs.waiting.lesser.Goals as goal

pub returns-then-comes_before : goal.returns-then-comes_before
returns-then-comes_before c = lesser_second _ _ _ _ _ _ _ c.if-j-count.true (sym c.comes_before.ensures ∙ c.if-comes_before.true)

pub returns-else-comes_before : goal.returns-else-comes_before
returns-else-comes_before c = lesser_first _ _ _ _ _ _ _ c.if-j-count.true (sym c.comes_before.ensures ∙ c.if-comes_before.false)

pub returns-else-j-count : goal.returns-else-j-count
returns-else-j-count c = lesser_one _ _ _ _ _ _ _ c.requires.2 c.if-j-count.false
