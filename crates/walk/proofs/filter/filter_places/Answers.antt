use mathlib.Core.Path.{◌∙◌}
use Prim.Native.Nat.{◌+◌}
use native.Mathlib.Omega.{arith}
use Rattle.walk.proofs.NodeLaws.{position_fits}
use Rattle.walk.proofs.FilterCode.{leaf_step, leaf_end, still_holds}
use Rattle.walk.proofs.filter.filter_places.Goals as goal

pub consider_at-on-requires : goal.consider_at-on-requires
consider_at-on-requires c =
    let l = c in
    let s = l in
    let p = s.requires in
    (p.0, position_fits _ _ _ s.args.w.opens (s.args.first + l.loop-i.i) _ (omega (arith, p.1, c.loop-i-test.true)) c.order_at-at.ensures, still_holds _ _ _ l.loop-i.invariant.0.long p.2, l.loop-i.invariant.1)

pub loop-i-preserved : goal.loop-i-preserved
loop-i-preserved c =
    let k = c in
    let a = k in
    let l = a in
    (leaf_step _ _ _ _ _ _ _ _ l.loop-i.i _ a.loop-i-test.true l.loop-i.invariant.0 k.consider_at-on.auto.bits a.order_at-at.ensures k.consider_at-on.ensures.0, k.consider_at-on.ensures.1, k.consider_at-on.auto.latest ∙ l.loop-i.invariant.2)

pub returns : goal.returns
returns c = (leaf_end _ _ _ _ _ _ _ c.loop-i.i c.loop-i-test.false c.loop-i.invariant.0, c.loop-i.invariant.1)
