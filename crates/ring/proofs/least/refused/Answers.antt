-- `ring::least::refused` meets its contract. Assumes nothing.
use mathlib.Core.Path.{refl}
use Rattle.ring.specs.Partners.{partners_refused}
use Rattle.ring.proofs.least.refused.Goals as goal

pub returns : goal.returns
unfolding partners_refused
returns c = refl
