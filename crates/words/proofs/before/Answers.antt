-- `words::before` meets its contract.
-- Assumes nothing.
use mir.Syntax.{w32}
use mir.ValLaws.{to_z-of_z}
use Rattle.words.specs.Word.{before}
use Rattle.words.proofs.before.Goals as goal

pub returns : goal.returns
unfolding before
returns c = rw (to_z-of_z w32 _ c.ranges.a, to_z-of_z w32 _ c.ranges.b)
