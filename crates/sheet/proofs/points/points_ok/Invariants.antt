use mathlib.Core.Path.{◌≡◌}
use mathlib.Core.Bool.{true}
use Rattle.words.specs.All.{all_b}
use Rattle.sheet.specs.Points.{point_ok, id_before}
use Rattle.sheet.proofs.points.points_ok.Given as goal

abbrev pub invariant-loop-i : goal.invariant-loop-i
invariant-loop-i l = (all_b l.i (point_ok l.lim l.s) ≡ true) × (l.last ≡ id_before l.s l.i)
