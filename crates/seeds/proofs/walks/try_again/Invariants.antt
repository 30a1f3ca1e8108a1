-- `seeds::walks::try_again` meets its contract: all through, what was kept at the start still is, or a dropper drops it. Assumes nothing.
use mathlib.Core.Path.{◌≡◌}
use lib.ListN.{length}
use Rattle.seeds.specs.Line.{Among}
use Rattle.seeds.specs.Covers.{Retries}
use Rattle.seeds.proofs.walks.try_again.Given as goal

abbrev pub invariant-loop-i : goal.invariant-loop-i
invariant-loop-i l = Retries (Among l.so.line) l.w.words.now l.q l.initial.bits l.bits × (length l.bits ≡ length l.initial.bits)
