-- `files::encode` meets its contract: the first i bytes are written, and the others hold what they held. Assumes nothing.
use mathlib.Core.Path.{◌≡◌}
use mathlib.Core.List.{◌++◌}
use lib.ListN.{length, drop}
use Rattle.words.specs.All.{tab}
use Rattle.files.specs.Files.{byte_at}
use Rattle.files.proofs.encode.Given as goal

abbrev pub invariant-loop-i : goal.invariant-loop-i
invariant-loop-i l = (length l.out ≡ length l.initial.out) × (l.out ≡ tab l.i (byte_at l.s) ++ drop l.i l.initial.out)
