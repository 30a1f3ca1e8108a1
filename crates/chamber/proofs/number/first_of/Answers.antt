-- `chamber::number::first_of` meets its contract. Assumes nothing.
use mathlib.Core.Path.{sym, ◌∙◌}
use Rattle.words.proofs.FirstLaws.{first_passes, first_stops, first_last}
use Rattle.chamber.proofs.number.first_of.Goals as goal

pub returns-then-a-ne0 : goal.returns-then-a-ne0
returns-then-a-ne0 c = sym (first_stops _ _ c.if-a-ne0.true)

pub returns-else-a-ne0 : goal.returns-else-a-ne0
returns-else-a-ne0 c = sym (first_passes _ _ c.if-a-ne0.false ∙ first_last _)
