-- `chamber::clear::blocks_at` meets its contract. Assumes nothing.
use Prim.Native.Nat.{◌<◌}
use Rattle.walk.proofs.NodeLaws.{spot_fits, position_fits}
use Rattle.chamber.proofs.clear.blocks_at.Goals as goal

pub spot_at-z-requires : goal.spot_at-z-requires
spot_at-z-requires c =
    let there : c.order_at-i.result < c.args.w.n = let s = c in position_fits _ _ _ s.args.w.opens s.args.r _ s.requires.2 c.order_at-i.ensures in
    (there)

pub does_block-requires : goal.does_block-requires
does_block-requires c =
    let there : c.order_at-i.result < c.args.w.n = let s = c in position_fits _ _ _ s.args.w.opens s.args.r _ s.requires.2 c.order_at-i.ensures in
    let p = c.requires in (p.0, p.1, spot_fits _ _ _ c.args.w.opens _ _ there c.spot_at-z.ensures)
