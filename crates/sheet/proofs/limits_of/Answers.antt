-- `sheet::limits_of` meets its contract. Assumes nothing.
use mathlib.Core.Path.{◌∙◌}
use Rattle.sheet.proofs.SheetLaws.{limits_two, limits_one}
use Rattle.sheet.proofs.limits_of.Goals as goal

pub returns-then-is_second : goal.returns-then-is_second
returns-then-is_second c = c.form2.ensures ∙ limits_two c.args.s.now _ c.is_second.ensures c.if-is_second.true

pub returns : goal.returns
returns c = c.form1.ensures ∙ limits_one c.args.s.now _ c.is_second.ensures c.if-is_second.false
