-- `shortest::refused` meets its contract. Assumes nothing.
use mathlib.Core.Path.{refl}
use Rattle.shortest.specs.Answer.{short_refused}
use Rattle.shortest.proofs.refused.Goals as goal

pub returns : goal.returns
unfolding short_refused
returns c = refl
