-- `plane::streets::is_far` meets its contract. Assumes nothing.
use lib.Dec.{ltb}
use Rattle.plane.specs.Profile.{far_by}
use Rattle.plane.proofs.streets.is_far.Goals as goal

pub returns : goal.returns
unfolding far_by
returns c = λ i. ltb (c.apart.ensures.0 i) (c.box_away.ensures i)
