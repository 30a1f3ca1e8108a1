-- `many::tally::refused` meets its contract. Assumes nothing.
use mathlib.Core.Path.{refl}
use Rattle.many.specs.Many.{count_refused}
use Rattle.many.proofs.tally.refused.Goals as goal

pub returns : goal.returns
unfolding count_refused
returns c = refl
