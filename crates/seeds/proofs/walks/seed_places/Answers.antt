use mathlib.Core.Path.{◌∙◌}
use Prim.Native.Nat.{◌+◌}
use native.Mathlib.Omega.{arith}
use Rattle.walk.proofs.NodeLaws.{spot_fits, position_fits}
use Rattle.seeds.proofs.LineLaws.{line_after}
use Rattle.seeds.proofs.walks.seed_places.Goals as goal

pub spot_at-z-requires : goal.spot_at-z-requires
spot_at-z-requires c = position_fits _ _ _ c.args.w.opens _ _ (omega (arith, c.loop-i-test.true, c.requires.1)) c.order_at-at.ensures

pub seed_place-requires : goal.seed_place-requires
seed_place-requires c =
    let there = position_fits _ _ _ c.args.w.opens (c.args.first + c.loop-i.i) _ (omega (arith, c.loop-i-test.true, c.requires.1)) c.order_at-at.ensures in
    (c.requires.0, spot_fits _ _ _ c.args.w.opens _ _ there c.spot_at-z.ensures)

pub loop-i-preserved : goal.loop-i-preserved
loop-i-preserved c =
    let there = position_fits _ _ _ c.args.w.opens (c.args.first + c.loop-i.i) _ (omega (arith, c.loop-i-test.true, c.requires.1)) c.order_at-at.ensures in
    line_after _ _ _ _ _ (λ y e. (c.order_at-at.result, there, e ∙ c.spot_at-z.ensures)) c.loop-i.invariant c.seed_place.ensures
