use Rattle.text.specs.Text.{input_text}
use Rattle.text.proofs.put_input.Goals as goal

pub returns-clause-grown : goal.returns-clause-grown
unfolding input_text
returns-clause-grown c = c.put.ensures
