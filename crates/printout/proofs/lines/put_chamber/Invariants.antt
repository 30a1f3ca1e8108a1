-- `printout::lines::put_chamber` meets its contract. The loop's invariant is `Putting`: what is put, and what is left of the chamber's pairs. Assumes nothing.
use mathlib.Core.Path.{◌≡◌}
use mathlib.Core.Bool.{true}
use Prim.Native.Nat.{◌-◌, ◌<◌}
use lib.ListN.{length}
use Rattle.sheet.specs.Places.{points_of}
use Rattle.bits.specs.Set.{kept}
use Rattle.printout.proofs.LineLaws.{Putting}
use Rattle.printout.proofs.lines.put_chamber.Given as goal

abbrev pub invariant-loop-i : goal.invariant-loop-i
invariant-loop-i l =
    (length l.out ≡ length l.initial.out) × Putting (points_of l.p.words.now) (points_of l.q.words.now) l.j l.p.n l.at l.count l.initial.out l.out l.to l.i × (l.i < l.p.n → kept l.bits l.i ≡ true)

abbrev pub decreases-loop-i : goal.decreases-loop-i
decreases-loop-i l = l.p.n - l.i
