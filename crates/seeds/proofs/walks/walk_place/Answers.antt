-- `seeds::walks::walk_place` meets its contract: the position is kept, or a dropper drops it. Assumes nothing.
use mathlib.Core.Path.{◌∙◌}
use native.Mathlib.Omega.{arith}
use Rattle.walk.proofs.NodeLaws.{spot_fits, position_fits}
use Rattle.seeds.proofs.LineLaws.{line_wider}
use Rattle.seeds.proofs.CoverLaws.{deals_kept}
use Rattle.seeds.proofs.walks.walk_place.Goals as goal

pub spot_at-z-requires : goal.spot_at-z-requires
spot_at-z-requires c = position_fits _ _ _ c.args.w.opens _ _ c.requires.1 c.order_at-at.ensures

pub spot_by-by-requires : goal.spot_by-by-requires
spot_by-by-requires c =
    let there = position_fits _ _ _ c.args.w.opens c.args.r _ c.requires.1 c.order_at-at.ensures in
    (c.requires.0, spot_fits _ _ _ c.args.w.opens _ _ there c.spot_at-z.ensures)

pub insert-requires : goal.insert-requires
insert-requires c =
    let there = position_fits _ _ _ c.args.w.opens c.args.r _ c.requires.1 c.order_at-at.ensures in
    omega (arith, there, c.requires.2.enough)

pub join-requires : goal.join-requires
join-requires c =
    let there = position_fits _ _ _ c.args.w.opens c.args.r _ c.requires.1 c.order_at-at.ensures in
    (c.requires.0, spot_fits _ _ _ c.args.w.opens _ _ there c.spot_at-z.ensures)

pub returns : goal.returns
returns c =
    let there = position_fits _ _ _ c.args.w.opens c.args.r _ c.requires.1 c.order_at-at.ensures in (
      line_wider _ _ _ _ (λ y e. (c.order_at-at.result, there, e ∙ c.spot_at-z.ensures)) c.join.ensures,
      deals_kept _ _ _ _ _ _ _ _ c.order_at-at.ensures (omega (arith, there, c.requires.2.enough)) c.insert.ensures,
    )
