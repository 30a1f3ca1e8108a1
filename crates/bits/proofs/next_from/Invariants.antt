-- `bits::next_from` meets its contract. The loop's invariant: the next one from `at` is the next one from i. Assumes nothing.
use mathlib.Core.Path.{◌≡◌}
use Prim.Native.Nat.{◌-◌}
use Rattle.bits.specs.Set.{next_from}
use Rattle.bits.proofs.next_from.Given as goal

abbrev pub invariant-loop-at : goal.invariant-loop-at
invariant-loop-at l = next_from l.bits l.at ≡ next_from l.bits l.i

abbrev pub decreases-loop-at : goal.decreases-loop-at
decreases-loop-at l = l.end - l.at
