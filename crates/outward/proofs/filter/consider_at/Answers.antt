-- `outward::filter::consider_at` meets its contract. Assumes nothing.
use Rattle.bits.proofs.SomeLaws.{finds_some}
use Rattle.walk.proofs.NodeLaws.{spot_fits}
use Rattle.walk.proofs.FilterCode.{consider_yes, consider_no, dropped_is}
use Rattle.outward.proofs.filter.consider_at.Goals as goal

pub box_at-requires : goal.box_at-requires
box_at-requires c = let p = c.requires in spot_fits _ _ _ c.args.w.opens _ _ p.1 c.spot_at-z.ensures

pub returns-then-seek_all-w : goal.returns-then-seek_all-w
returns-then-seek_all-w c =
    let z = c in
    consider_yes _ _ _ _ _ (dropped_is _ _ _ _ _ _ _ _ z.spot_at-z.ensures z.box_at.ensures.0 (finds_some _ _ _ _ c.seek_all.ensures c.if-seek_all-w.true))

pub returns : goal.returns
returns c =
    let e = c in
    let z = e in
    consider_no _ _ _ _ _ _ (dropped_is _ _ _ _ _ _ _ _ z.spot_at-z.ensures z.box_at.ensures.0 (e.seek_all.ensures.none_left e.if-seek_all-w.false)) c.insert.ensures
