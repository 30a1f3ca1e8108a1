-- `seeds::scan::past_blank` meets its contract: all through, no position is kept between the two words. Assumes nothing.
use mathlib.Core.Path.{◌≡◌}
use Prim.Native.Nat.{◌*◌, ◌-◌, ◌≤◌}
use lib.ListN.{length}
use Rattle.bits.specs.Set.{next_from}
use Rattle.seeds.proofs.scan.past_blank.Given as goal

abbrev pub invariant-loop-at : goal.invariant-loop-at
invariant-loop-at l = (l.at ≤ length l.bits) × (next_from l.bits (64 * l.at) ≡ next_from l.bits (64 * l.w))

abbrev pub decreases-loop-at : goal.decreases-loop-at
decreases-loop-at l = l.n - l.at
