-- `bits::len` meets its contract. The loop's invariant: what is counted and what the words from this on have make the whole. Assumes nothing.
use mathlib.Core.Path.{◌≡◌}
use Prim.Native.Nat.{◌+◌, ◌*◌, ◌≤◌}
use Rattle.bits.specs.Set.{card}
use Rattle.bits.proofs.CardLaws.{rest}
use Rattle.bits.proofs.len.Given as goal

abbrev pub invariant-loop-word : goal.invariant-loop-word
invariant-loop-word l = (l.n ≤ l.word-index * 64) × (l.n + rest l.bits l.word-index ≡ card l.bits)
