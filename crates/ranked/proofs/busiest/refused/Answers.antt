-- `ranked::busiest::refused` meets its contract. Assumes nothing.
use mathlib.Core.Path.{refl}
use Rattle.ranked.specs.Busiest.{busy_refused}
use Rattle.ranked.proofs.busiest.refused.Goals as goal

pub returns : goal.returns
unfolding busy_refused
returns c = refl
