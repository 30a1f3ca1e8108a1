-- `many::cursor::late_from` meets its contract. Assumes nothing.
use Prim.Native.Nat.{◌-◌}
use Rattle.sheet.specs.Places.{points_of}
use Rattle.many.proofs.CursorLaws.{Looks, Kept-at}
use Rattle.many.proofs.cursor.late_from.Given as goal

abbrev pub invariant-loop-x : goal.invariant-loop-x
invariant-loop-x l = Looks (points_of l.p.words.now) (points_of l.q.words.now) l.key l.bits l.j l.p.n l.i l.x × Kept-at l.bits l.p.n l.x

abbrev pub decreases-loop-x : goal.decreases-loop-x
decreases-loop-x l = l.p.n - l.x
