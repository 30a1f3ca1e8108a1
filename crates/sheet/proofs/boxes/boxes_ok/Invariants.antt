use mathlib.Core.Path.{◌≡◌}
use mathlib.Core.Bool.{true}
use Rattle.words.specs.All.{all_b}
use Rattle.sheet.specs.Boxes.{box_ok}
use Rattle.sheet.proofs.boxes.boxes_ok.Given as goal

abbrev pub invariant-loop-j : goal.invariant-loop-j
invariant-loop-j l = all_b l.j (box_ok l.s l.n) ≡ true
