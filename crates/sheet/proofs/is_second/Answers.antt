-- `sheet::is_second` meets its contract. Assumes nothing.
use Rattle.sheet.proofs.SheetLaws.{second_none}
use Rattle.sheet.proofs.is_second.Goals as goal

pub returns-then-len-eq0 : goal.returns-then-len-eq0
returns-then-len-eq0 c = second_none c.args.s.now c.if-len-eq0.true
