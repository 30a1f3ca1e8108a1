-- `join::start_for` meets its contract. Assumes nothing.
use Rattle.join.specs.Sheets.{start_for}
use Rattle.join.proofs.start_for.Goals as goal

pub returns-then-terms : goal.returns-then-terms
unfolding start_for
returns-then-terms c = rw c.if-terms.true

pub returns-else-terms : goal.returns-else-terms
unfolding start_for
returns-else-terms c = rw c.if-terms.false
