-- `sheet::boxes::tightest` meets its contract: after i parts, the box is that of the parts up to a + i. Assumes nothing.
use mathlib.Core.Path.{◌≡◌}
use Rattle.sheet.specs.Boxes.{best_sides}
use Rattle.sheet.proofs.boxes.tightest.Given as goal

abbrev pub invariant-loop-i : goal.invariant-loop-i
invariant-loop-i l = l.o ≡ best_sides l.s l.n l.leaf l.a l.i
