-- `join::first_from` meets its contract. The loop's invariant: none of the first j chambers is from the key on. Assumes nothing.
use mathlib.Core.Path.{◌≡◌}
use Rattle.plane.specs.Point.{id_at}
use Rattle.sheet.specs.Places.{points_of}
use Rattle.join.specs.Work.{first_from}
use Rattle.join.proofs.first_from.Given as goal

abbrev pub invariant-loop-j : goal.invariant-loop-j
invariant-loop-j l = first_from (id_at (points_of l.q.words.now)) l.key l.j ≡ l.j
