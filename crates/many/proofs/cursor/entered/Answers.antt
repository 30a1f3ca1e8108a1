-- `many::cursor::entered` meets its contract. Assumes nothing.
use Rattle.list.specs.Terms.{profile_for}
use Rattle.many.proofs.CursorLaws.{entered_none, entered_some}
use Rattle.many.proofs.cursor.entered.Goals as goal

pub returns-then-found-eq0 : goal.returns-then-found-eq0
returns-then-found-eq0 c = entered_none _ _ _ _ _ _ _ c.if-found-eq0.true c.listed_of-found.ensures

pub returns : goal.returns
returns c = entered_some _ (profile_for c.args.terms) _ _ _ _ _ _ _ _ c.if-found-eq0.false c.listed_of-found.ensures c.late_from.ensures
