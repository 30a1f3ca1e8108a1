-- `plane::streets::does_block` meets its contract. Assumes nothing.
use mathlib.Core.Bool.{not, ◌&&◌}
use lib.Dec.{leb}
use Rattle.plane.specs.Profile.{blocks_by}
use Rattle.plane.proofs.streets.does_block.Goals as goal

pub returns : goal.returns
unfolding blocks_by
returns c = λ i. leb (c.from_centre.ensures i) (c.apart.ensures.0 i) && not (c.is_same.ensures i) && not (c.is_same-2.ensures i)
