-- `chamber::clear::clear_on` meets its contract. Assumes nothing.
use Rattle.chamber.proofs.ClearLaws.{whole_none, whole_tells}
use Rattle.chamber.proofs.clear.clear_on.Goals as goal

pub returns-then-w-eq0 : goal.returns-then-w-eq0
returns-then-w-eq0 c = let s = c in whole_none s.args.grid _ _ _ s.args.w.opens _ _ c.if-w-eq0.true

pub returns : goal.returns
returns c = let s = c in whole_tells s.args.grid _ _ _ s.args.w.opens _ _ c.if-w-eq0.false _ c.clear_below.ensures
