-- `outward::waiting::is_before` meets its contract. Assumes nothing.
use Rattle.outward.proofs.WaitingLaws.{before_is}
use Rattle.outward.proofs.waiting.is_before.Goals as goal

pub returns : goal.returns
returns c = before_is _ _ _ _ _ _ _ _ c.distance_at-d.ensures c.distance_at-g.ensures
