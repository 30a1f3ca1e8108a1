-- `runs::refused` meets its contract. Assumes nothing.
use mathlib.Core.Path.{refl}
use Rattle.runs.specs.Run.{run_refused}
use Rattle.runs.proofs.refused.Goals as goal

pub returns : goal.returns
unfolding run_refused
returns c = refl
