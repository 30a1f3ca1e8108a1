-- `sheet::Sheet::position_of` meets its contract. The loop's invariant: none of the first j records has the id. Assumes nothing.
use mathlib.Core.Path.{◌≡◌}
use Rattle.words.specs.All.{first_b}
use Rattle.sheet.proofs.FindLaws.{has}
use Rattle.sheet.proofs.reads.Sheet.position_of.Given as goal

abbrev pub invariant-loop-j : goal.invariant-loop-j
invariant-loop-j l = first_b l.j (has l.self.words.now l.id) ≡ l.j
