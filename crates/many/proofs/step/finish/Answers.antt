-- `many::step::finish` meets its contract. Assumes nothing.
use mathlib.Core.Path.{refl}
use Rattle.bits.proofs.LentLaws.{part_wiped}
use Rattle.many.proofs.step.finish.Goals as goal

pub returns : goal.returns
returns c = (refl, part_wiped _ _ _ c.requires c.clear.ensures)
