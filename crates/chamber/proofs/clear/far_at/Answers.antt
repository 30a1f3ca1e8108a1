-- `chamber::clear::far_at` meets its contract. Assumes nothing.
use Rattle.walk.proofs.NodeLaws.{box_fits}
use Rattle.chamber.proofs.clear.far_at.Goals as goal

pub is_far-requires : goal.is_far-requires
is_far-requires c = let p = c.requires in (p.0, p.1, box_fits _ _ _ c.args.w.opens _ _ p.2 c.box_at-o.ensures)
