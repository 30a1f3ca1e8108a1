-- `brute::is_clear` meets its contract. Assumes nothing.
use mathlib.Core.Path.{sym, ◌∙◌}
use Rattle.brute.specs.Brute.{clear}
use Rattle.brute.proofs.is_clear.Goals as goal

pub returns-then-not-is_held : goal.returns-then-not-is_held
unfolding clear
returns-then-not-is_held c = rw (sym c.is_held.ensures ∙ c.if-not-is_held.true)

pub returns : goal.returns
unfolding clear
returns c = rw (sym c.is_held.ensures ∙ c.if-not-is_held.false, c.is_together.ensures, c.is_together-2.ensures)
