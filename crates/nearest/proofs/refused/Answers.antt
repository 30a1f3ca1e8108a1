-- `nearest::refused` meets its contract. Assumes nothing.
use mathlib.Core.Path.{refl}
use Rattle.nearest.specs.Nearest.{nearest_refused}
use Rattle.nearest.proofs.refused.Goals as goal

pub returns : goal.returns
unfolding nearest_refused
returns c = refl
