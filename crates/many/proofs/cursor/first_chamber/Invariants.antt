-- `many::cursor::first_chamber` meets its contract. Assumes nothing.
use Rattle.sheet.specs.Places.{points_of}
use Rattle.many.specs.Cursor.{Early}
use Rattle.many.proofs.cursor.first_chamber.Given as goal

abbrev pub invariant-loop-j : goal.invariant-loop-j
invariant-loop-j l = Early (points_of l.q.words.now) l.key l.j
