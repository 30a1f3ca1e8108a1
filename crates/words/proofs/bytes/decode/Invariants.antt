-- `words::bytes::decode` meets its contract: the first i places hold the first i words, and the others what they held. Assumes nothing.
use mathlib.Core.Path.{◌≡◌}
use lib.ListN.{length, take, drop}
use Rattle.words.specs.Bytes.{words_of}
use Rattle.words.proofs.bytes.decode.Given as goal

abbrev pub invariant-loop-i : goal.invariant-loop-i
invariant-loop-i l = (length l.out ≡ length l.initial.out) × (take l.i l.out ≡ words_of l.bytes l.i) × (drop l.i l.out ≡ drop l.i l.initial.out)
