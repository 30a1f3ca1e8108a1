-- `ranked::visits::refused` meets its contract. Assumes nothing.
use mathlib.Core.Path.{refl}
use Rattle.ranked.specs.Urgent.{urgent_refused}
use Rattle.ranked.proofs.visits.refused.Goals as goal

pub returns : goal.returns
unfolding urgent_refused
returns c = refl
