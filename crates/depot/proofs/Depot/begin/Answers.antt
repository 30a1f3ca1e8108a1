use mathlib.Core.Path.{refl}
use Rattle.depot.specs.Depot.{begun_depot}
use Rattle.depot.proofs.Depot.begin.Goals as goal

pub returns : goal.returns
unfolding begun_depot
returns c = refl
