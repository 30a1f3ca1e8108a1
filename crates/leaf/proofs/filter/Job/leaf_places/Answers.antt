use mathlib.Core.Path.{refl}
use Prim.Native.Nat.{◌+◌}
use native.Mathlib.Omega.{arith}
use Rattle.walk.proofs.NodeLaws.{position_fits}
use Rattle.leaf.proofs.FilterCode.{leaf_place_is, still_sets, turned_step, turned_end}
use Rattle.leaf.proofs.filter.Job.leaf_places.Goals as goal

pub weigh_all-requires : goal.weigh_all-requires
weigh_all-requires c =
    let p = c.requires in
    (position_fits _ _ _ c.args.self.p.opens (c.args.first + c.loop-i.i) _ (omega (arith, p.0, c.loop-i-test.true)) c.order_at-at.ensures, still_sets _ _ _ _ c.loop-i.invariant.long p.1)

pub loop-i-preserved : goal.loop-i-preserved
loop-i-preserved c =
    turned_step _ _ _ _ _ _ c.loop-i.i (c.args.first + c.loop-i.i) refl c.loop-i-test.true c.loop-i.invariant c.weigh_all.auto.bits (leaf_place_is _ _ _ _ _ (c.args.first + c.loop-i.i) _ _ _ c.order_at-at.ensures c.weigh_all.ensures)

pub returns : goal.returns
returns c = turned_end _ _ _ _ _ c.loop-i.i c.loop-i-test.false c.loop-i.invariant
