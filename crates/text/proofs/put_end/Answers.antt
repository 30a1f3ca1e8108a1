use Rattle.text.specs.Text.{end_text}
use Rattle.text.proofs.Grow.{then}
use Rattle.text.proofs.put_end.Goals as goal

pub returns-clause-grown : goal.returns-clause-grown
unfolding end_text
returns-clause-grown c = then c.put-next.ensures c.put_number.ensures.grown
