-- `seeds::scan::is_blank` meets its contract: after so many turns, where the answer is still yes, the first so many words are 0. Assumes nothing.
use mathlib.Core.Path.{◌≡◌}
use mathlib.Core.Bool.{true}
use Rattle.seeds.specs.Scan.{Blank}
use Rattle.seeds.proofs.scan.is_blank.Given as goal

abbrev pub invariant-loop-word : goal.invariant-loop-word
invariant-loop-word l = l.blank ≡ true → Blank l.bits l.w l.word-index
