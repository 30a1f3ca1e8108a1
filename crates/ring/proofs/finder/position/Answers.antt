-- `ring::finder::position` meets its contract. Assumes nothing.
use Rattle.ring.specs.Position.{place_refused}
use Rattle.ring.proofs.finder.position.Goals as goal

pub returns-in-Err : goal.returns-in-Err
unfolding place_refused
returns-in-Err c = c.in-Err.ensures
