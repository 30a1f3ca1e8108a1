-- `many::batch::refused` meets its contract. Assumes nothing.
use mathlib.Core.Path.{refl}
use Rattle.many.specs.Many.{many_refused}
use Rattle.many.proofs.batch.refused.Goals as goal

pub returns : goal.returns
unfolding many_refused
returns c = refl
