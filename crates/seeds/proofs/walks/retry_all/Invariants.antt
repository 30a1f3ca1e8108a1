-- `seeds::walks::retry_all` meets its contract: all through, what was kept at the start still is, or a dropper drops it. Assumes nothing.
use mathlib.Core.Path.{◌≡◌}
use Prim.Native.Nat.{◌-◌}
use lib.ListN.{length}
use Rattle.seeds.specs.Line.{Among}
use Rattle.seeds.specs.Covers.{Retries}
use Rattle.seeds.proofs.walks.retry_all.Given as goal

abbrev pub invariant-loop-i : goal.invariant-loop-i
invariant-loop-i l = Retries (Among l.line) l.w.words.now l.q l.initial.bits l.bits × (length l.bits ≡ length l.initial.bits)

abbrev pub decreases-loop-i : goal.decreases-loop-i
decreases-loop-i l = l.w.n - l.i
