-- `words::same` meets its contract.
-- Assumes nothing.
use Rattle.words.proofs.Signs.{same_bits}
use Rattle.words.proofs.same.Goals as goal

pub returns : goal.returns
returns c = same_bits _ _ c.ranges.a c.ranges.b
