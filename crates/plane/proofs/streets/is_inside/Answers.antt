-- `plane::streets::is_inside` meets its contract. Assumes nothing.
use lib.Dec.{ltb}
use Rattle.plane.specs.Profile.{inside_by}
use Rattle.plane.proofs.streets.is_inside.Goals as goal

pub returns : goal.returns
unfolding inside_by
returns c = λ i. ltb (c.from_centre.ensures i) (c.apart.ensures.0 i)
