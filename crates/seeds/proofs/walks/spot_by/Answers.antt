-- `seeds::walks::spot_by` meets its contract. Assumes nothing.
use Rattle.std.proofs.Common.{rules}
use Rattle.plane.specs.Rule.{drops}
use Rattle.seeds.proofs.walks.spot_by.Goals as goal

pub returns : goal.returns
unfolding drops
returns c = search rules
