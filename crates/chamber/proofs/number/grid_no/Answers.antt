-- `chamber::number::grid_no` meets its contract. Assumes nothing.
use mathlib.Core.Path.{sym, ap₂, ◌∙◌}
use mathlib.Core.Bool.{Bool, ◌&&◌, ◌||◌}
use Rattle.words.proofs.FirstLaws.{given_no, given_yes}
use Rattle.chamber.proofs.number.grid_no.Goals as goal

pub returns-then-grid-is_second : goal.returns-then-grid-is_second
returns-then-grid-is_second c = sym (given_yes 29 (ap₂ (λ (x y : Bool). c.args.grid && (x || y)) (sym c.is_second.ensures) (sym c.is_second-2.ensures) ∙ c.if-grid-is_second.true))

pub returns : goal.returns
returns c = sym (given_no 29 (ap₂ (λ (x y : Bool). c.args.grid && (x || y)) (sym c.is_second.ensures) (sym c.is_second-2.ensures) ∙ c.if-grid-is_second.false))
