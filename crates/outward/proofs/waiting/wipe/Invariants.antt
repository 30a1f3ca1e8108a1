-- `outward::waiting::wipe` meets its contract. The loop's invariant: the numbers before i are wiped. Assumes nothing.
use mathlib.Core.Path.{◌≡◌}
use lib.ListN.{length}
use Rattle.bits.specs.Set.{wiped}
use Rattle.outward.proofs.waiting.wipe.Given as goal

abbrev pub invariant-loop-i : goal.invariant-loop-i
invariant-loop-i l = (l.waiting ≡ wiped l.i l.initial.waiting) × (length l.waiting ≡ length l.initial.waiting)
