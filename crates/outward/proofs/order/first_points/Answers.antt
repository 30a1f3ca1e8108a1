use mathlib.Core.Path.{◌≡◌}
use Prim.Native.Nat.{◌<◌}
use native.Mathlib.Omega.{arith}
use lib.Dec.{ltb}
use lib.ListN.{length}
use borrow.Author.Tests.{ltb-true}
use Rattle.integers.proofs.Bools.{and_left, and_right}
use Rattle.outward.proofs.WalkCode.{going_fits, going_node, going_room}
use Rattle.outward.proofs.FilterCode.{wiped_all}
use Rattle.outward.proofs.OrderCode.{giving_start, giving_less, giving_meet, giving_under, giving_open, giving_done}
use Rattle.outward.proofs.order.first_points.Goals as goal

pub loop-count-init : goal.loop-count-init
loop-count-init c =
    let r = c in
    (giving_start _ _ _ _ c.args.w.opens _ _ _ r.put_root-count.ensures.0 r.put_root-count.ensures.1 r.put_root-count.ensures.2, omega arith)

pub take_out-e-requires : goal.take_out-e-requires
take_out-e-requires c =
    let root-long : length c.put_root-count.new.waiting ≡ length c.args.waiting.now = c.put_root-count.ensures.2.long in
    let waits : 0 < c.loop-count.count = ltb-true 0 c.loop-count.count (and_left _ (ltb c.loop-count.got c.args.size) c.loop-count-test.true) in
    let l = c in
    let p = l.requires in
    let g = l.loop-count.invariant.0.going in
    (p.0, g.heap, waits, going_fits _ _ _ _ _ _ _ l.args.w.opens _ _ _ _ _ g, omega (arith, p.2, g.past.long, root-long))

pub overflow_sub-e : goal.overflow_sub-e
overflow_sub-e c = (going_node _ _ _ _ _ _ _ c.args.w.opens _ _ _ _ _ c.loop-count.invariant.0.going _ _ c.take_out-e.ensures c.if-e-w.true).0

pub put_covered-count-requires : goal.put_covered-count-requires
put_covered-count-requires c =
    let root-long : length c.put_root-count.new.waiting ≡ length c.args.waiting.now = c.put_root-count.ensures.2.long in
    let l = c in
    let p = l.requires in
    let t = c.take_out-e.ensures in
    let u = c.if-e-w.true in (
      p.0,
      (going_node _ _ _ _ _ _ _ l.args.w.opens _ _ _ _ _ l.loop-count.invariant.0.going _ _ t u).1,
      t.heap,
      going_room _ _ _ _ _ _ _ l.args.w.opens _ _ _ _ _ l.loop-count.invariant.0.going _ _ t u,
      omega (arith, p.2, l.loop-count.invariant.0.going.past.long, root-long, t.past.long),
    )

pub loop-count-smaller-then-e-w : goal.loop-count-smaller-then-e-w
loop-count-smaller-then-e-w c =
    let l = c in
    giving_under _ _ _ _ l.args.w.opens _ _ _ _ _ l.loop-count.invariant.0 _ _ c.take_out-e.ensures c.if-e-w.true _ _ c.put_covered-count.ensures.0

pub loop-count-preserved-then-e-w : goal.loop-count-preserved-then-e-w
loop-count-preserved-then-e-w c =
    let l = c in
    let y = c.put_covered-count.ensures in
    (giving_open _ _ _ _ l.args.w.opens _ _ _ _ _ l.loop-count.invariant.0 _ _ c.take_out-e.ensures c.if-e-w.true _ _ y.0 y.1 y.3, l.loop-count.invariant.1)

pub loop-count-smaller : goal.loop-count-smaller
loop-count-smaller c =
    let l = c in
    giving_less _ _ _ _ l.args.w.opens _ _ _ _ _ l.loop-count.invariant.0 _ _ c.take_out-e.ensures

pub loop-count-preserved : goal.loop-count-preserved
loop-count-preserved c =
    let wanted : c.loop-count.got < c.args.size = ltb-true c.loop-count.got c.args.size (and_right (ltb 0 c.loop-count.count) _ c.loop-count-test.true) in
    let l = c in
    (giving_meet _ _ _ _ l.args.w.opens _ _ _ _ _ l.loop-count.invariant.0 _ _ c.take_out-e.ensures (omega (arith, wanted, l.requires.1)) c.if-e-w.false, omega (arith, wanted))

pub returns : goal.returns
returns c =
    let l = c in
    let e = giving_done _ _ _ _ l.args.w.opens _ _ _ _ _ l.loop-count.invariant.0 _ l.loop-count.invariant.1 l.requires.1 c.loop-count-test.false in
    (e.0, e.1, wiped_all _ _ _ _ _ _ l.put_root-count.ensures.2 l.loop-count.invariant.0.going.past c.wipe.ensures)
