-- `runs::copy_words` meets its contract: after i turns the first i words are copied, and those past them are as they were. Assumes nothing.
use mathlib.Core.Path.{◌≡◌}
use Prim.Native.Nat.{◌≤◌}
use lib.ListN.{length, take, drop}
use Rattle.runs.proofs.copy_words.Given as goal

abbrev pub invariant-loop-i : goal.invariant-loop-i
invariant-loop-i l = (length l.to ≡ length l.initial.to) × (l.i ≤ l.k) × (take l.i l.to ≡ take l.i l.from) × (drop l.i l.to ≡ drop l.i l.initial.to)
