use Rattle.walk.proofs.NodeLaws.{spot_fits}
use Rattle.walk.proofs.ring.hits.Goals as goal

pub does_block-requires : goal.does_block-requires
does_block-requires c = let p = c.requires in (p.0, p.1, spot_fits _ _ _ c.args.w.opens _ _ p.2 c.spot_at-z.ensures)
