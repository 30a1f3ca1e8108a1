-- `plane::profile::is_size` meets its contract. Assumes nothing.
use Rattle.plane.specs.Profile.{size_ok}
use Rattle.plane.proofs.profile.is_size.Goals as goal

pub returns-then-grid : goal.returns-then-grid
unfolding size_ok
returns-then-grid c = rw c.if-grid.true

pub returns : goal.returns
unfolding size_ok
returns c = rw c.if-grid.false
