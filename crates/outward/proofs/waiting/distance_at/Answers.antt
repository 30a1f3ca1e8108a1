-- `outward::waiting::distance_at` meets its contract. Assumes nothing.
use Rattle.walk.proofs.NodeLaws.{spot_fits, box_fits}
use Rattle.outward.proofs.WaitingLaws.{kind_box, kind_point, distance_by_box, distance_by_point}
use Rattle.outward.proofs.waiting.distance_at.Goals as goal

pub box_distance-requires : goal.box_distance-requires
box_distance-requires c = let p = c.requires in (p.0, box_fits _ _ _ c.args.w.opens _ _ (kind_box p.1 c.if-k-w.true).1 c.box_at.ensures)

pub returns-then-k-w : goal.returns-then-k-w
returns-then-k-w c = let b = c in distance_by_box _ _ _ _ _ _ _ b.if-k-w.true c.box_at.ensures c.box_distance.ensures

pub diameter-requires : goal.diameter-requires
diameter-requires c = let p = c.requires in (p.0, spot_fits _ _ _ c.args.w.opens _ _ (kind_point p.1 c.if-k-w.false) c.spot_at.ensures)

pub returns : goal.returns
returns c = let b = c in distance_by_point _ _ _ _ _ _ _ b.if-k-w.false c.spot_at.ensures c.diameter.ensures
