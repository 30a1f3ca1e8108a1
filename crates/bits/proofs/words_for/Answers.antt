-- `bits::words_for` meets its contract. Assumes nothing.
use Rattle.std.proofs.Common.{arith}
use Rattle.bits.specs.Set.{words_for}
use Rattle.bits.proofs.words_for.Goals as goal

pub returns : goal.returns
unfolding words_for
returns c = omega arith
