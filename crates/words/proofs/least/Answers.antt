-- `words::least` meets its contract. Assumes nothing.
use mir.Syntax.{w32}
use mir.ValLaws.{to_z-of_z}
use Rattle.words.specs.Word.{min_z}
use Rattle.words.proofs.Signs.{handed}
use Rattle.words.proofs.least.Goals as goal

pub returns : goal.returns
unfolding min_z
returns c = handed c.min.type_inv (rw (to_z-of_z w32 _ c.ranges.a, to_z-of_z w32 _ c.ranges.b) at c.min.ensures.value)
