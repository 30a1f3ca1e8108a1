use Rattle.std.proofs.Common.{ap, refl, Ok}
use Rattle.input.specs.Got.{told_by}
use Rattle.input.proofs.told.Goals as goal

pub returns-in-Ok-clause-value : goal.returns-in-Ok-clause-value
unfolding told_by
returns-in-Ok-clause-value c = rw c.in-Ok.is (ap Ok c.min.ensures)

pub returns-in-Err-clause-value : goal.returns-in-Err-clause-value
unfolding told_by
returns-in-Err-clause-value c = rw c.in-Err.is refl
