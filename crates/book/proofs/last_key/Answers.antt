use mathlib.Core.Path.{◌∙◌}
use Rattle.book.proofs.CoreLaws.{no_key, a_key}
use Rattle.book.proofs.last_key.Goals as goal

pub returns-then-held-slots : goal.returns-then-held-slots
returns-then-held-slots c = no_key _ _ c.if-held-slots.true

pub returns : goal.returns
returns c = c.key_of.ensures ∙ a_key _ _ c.if-held-slots.false
