-- `nearest::near_at` meets its contract. Assumes nothing.
use Rattle.walk.proofs.NodeLaws.{spot_fits}
use Rattle.nearest.proofs.AnswerLaws.{near_is}
use Rattle.nearest.proofs.near_at.Goals as goal

pub diameter-requires : goal.diameter-requires
diameter-requires c = let p = c.requires in (p.0, spot_fits _ _ _ c.args.p.opens _ _ p.1 c.spot_at-at.ensures)

pub returns : goal.returns
returns c = near_is _ _ _ _ _ _ c.spot_at-at.ensures c.id_at.ensures c.diameter.ensures
