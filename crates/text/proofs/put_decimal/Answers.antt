use Rattle.text.specs.Text.{decimal}
use Rattle.text.proofs.put_decimal.Goals as goal

pub returns-clause-grown : goal.returns-clause-grown
unfolding decimal
returns-clause-grown c = c.put_digits.ensures.grown
