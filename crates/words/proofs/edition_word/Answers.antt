-- `words::edition_word` meets its contract. Assumes nothing.
use mathlib.Core.Path.{◌∙◌}
use mir.Syntax.{w32}
use mir.ValLaws.{to_z-of_z}
use Rattle.words.proofs.Signs.{up_from, down_from}
use Rattle.words.proofs.RangeLaws.{edition_neg, edition_abs}
use Rattle.words.proofs.edition_word.Goals as goal

pub returns-then-x-ge0 : goal.returns-then-x-ge0
returns-then-x-ge0 c = c.is_edition.ensures ∙ edition_abs _ _ (to_z-of_z w32 _ c.ranges.x) (up_from (to_z-of_z w32 _ c.ranges.x) c.if-x-ge0.true)

pub returns-else-x-ge0 : goal.returns-else-x-ge0
returns-else-x-ge0 c = c.if-x-ge0.false ∙ edition_neg _ _ (to_z-of_z w32 _ c.ranges.x) (down_from (to_z-of_z w32 _ c.ranges.x) c.if-x-ge0.false)
