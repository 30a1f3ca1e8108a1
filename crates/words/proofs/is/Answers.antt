-- `words::is` meets its contract. Assumes nothing.
use mathlib.Core.Path.{◌∙◌}
use mir.Syntax.{w32}
use mir.ValLaws.{to_z-of_z}
use Rattle.words.proofs.Signs.{up_from, down_from}
use Rattle.words.proofs.Signs.{is_neg, is_abs}
use Rattle.words.proofs.is.Goals as goal

pub returns-then-a-ge0 : goal.returns-then-a-ge0
returns-then-a-ge0 c = is_abs _ _ _ (to_z-of_z w32 _ c.ranges.a) (up_from (to_z-of_z w32 _ c.ranges.a) c.if-a-ge0.true)

pub returns-else-a-ge0 : goal.returns-else-a-ge0
returns-else-a-ge0 c = c.if-a-ge0.false ∙ is_neg _ _ _ (to_z-of_z w32 _ c.ranges.a) (down_from (to_z-of_z w32 _ c.ranges.a) c.if-a-ge0.false)
