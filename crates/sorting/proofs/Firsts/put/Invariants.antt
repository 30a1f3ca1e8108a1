-- `sorting::Firsts::put` meets its contract. The loop's invariant is `Shifted`: what is left to do at place i. Assumes nothing.
use mathlib.Core.Path.{◌≡◌}
use Rattle.sorting.proofs.HeldLaws.{Shifted}
use Rattle.sorting.proofs.Firsts.put.Given as goal

abbrev pub invariant-loop-i : goal.invariant-loop-i
invariant-loop-i g l = Shifted g.O.Comparison.before g.O.Comparison.unused l.v l.initial.r.rows l.n l.r.rows l.i × (l.r.count ≡ l.initial.r.count)
