-- `nearest::unkept` meets its contract. Assumes nothing.
use mathlib.Core.Path.{refl}
use Rattle.ring.specs.Answers.{unfiltered}
use Rattle.nearest.proofs.unkept.Goals as goal

pub returns : goal.returns
unfolding unfiltered
returns c = refl
