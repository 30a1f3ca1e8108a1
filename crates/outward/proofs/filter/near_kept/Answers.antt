use mathlib.Core.Path.{◌≡◌, sym, ◌∙◌}
use native.Mathlib.Omega.{arith}
use lib.ListN.{length}
use Rattle.outward.proofs.WalkCode.{going_fits, going_node, going_room}
use Rattle.outward.proofs.FilterCode.{sifting_start, sifting_end, sifting_less, sifting_skip, sifting_meet, sifting_under, sifting_open, wiped_all}
use Rattle.outward.proofs.filter.near_kept.Goals as goal

pub loop-count-init : goal.loop-count-init
loop-count-init c =
    let r = c in
    let k = c in
    sifting_start _ _ _ _ c.args.w.opens _ _ _ _ _ k.clear.ensures k.clear.auto.bits r.put_root-count.ensures.0 r.put_root-count.ensures.1 r.put_root-count.ensures.2

pub take_out-e-requires : goal.take_out-e-requires
take_out-e-requires c =
    let root-long : length c.put_root-count.new.waiting ≡ length c.args.waiting.now = c.put_root-count.ensures.2.long in
    let l = c in
    let p = l.requires in
    let g = l.loop-count.invariant.going in
    (p.0, g.heap, c.loop-count-test.true, going_fits _ _ _ _ _ _ _ l.args.w.opens _ _ _ _ _ g, omega (arith, p.2, g.past.long, root-long))

pub loop-count-smaller-then-is_shut : goal.loop-count-smaller-then-is_shut
loop-count-smaller-then-is_shut c =
    let l = c in
    sifting_less _ _ _ _ l.args.w.opens _ _ _ _ _ _ l.loop-count.invariant _ _ c.take_out-e.ensures

pub loop-count-preserved-then-is_shut : goal.loop-count-preserved-then-is_shut
loop-count-preserved-then-is_shut c =
    let l = c in
    sifting_skip _ _ _ _ l.args.w.opens _ _ _ _ _ _ l.loop-count.invariant _ _ c.take_out-e.ensures c.if-e-w.true (sym c.is_shut.ensures ∙ c.if-is_shut.true)

pub put_covered-count-requires : goal.put_covered-count-requires
put_covered-count-requires c =
    let root-long : length c.put_root-count.new.waiting ≡ length c.args.waiting.now = c.put_root-count.ensures.2.long in
    let l = c in
    let p = l.requires in
    let t = c.take_out-e.ensures in
    let u = c.if-e-w.true in (
      p.0,
      (going_node _ _ _ _ _ _ _ l.args.w.opens _ _ _ _ _ l.loop-count.invariant.going _ _ t u).1,
      t.heap,
      going_room _ _ _ _ _ _ _ l.args.w.opens _ _ _ _ _ l.loop-count.invariant.going _ _ t u,
      omega (arith, p.2, l.loop-count.invariant.going.past.long, root-long, t.past.long),
    )

pub loop-count-smaller-then-e-w : goal.loop-count-smaller-then-e-w
loop-count-smaller-then-e-w c =
    let l = c in
    sifting_under _ _ _ _ l.args.w.opens _ _ _ _ _ _ l.loop-count.invariant _ _ c.take_out-e.ensures c.if-e-w.true _ _ c.put_covered-count.ensures.0

pub loop-count-preserved-then-e-w : goal.loop-count-preserved-then-e-w
loop-count-preserved-then-e-w c =
    let l = c in
    let e = c in
    let y = c.put_covered-count.ensures in
    sifting_open _ _ _ _ l.args.w.opens _ _ _ _ _ _ l.loop-count.invariant _ _ c.take_out-e.ensures c.if-e-w.true _ _ y.0 (sym e.is_shut.ensures ∙ e.if-is_shut.false) y.1 y.3

pub loop-count-smaller : goal.loop-count-smaller
loop-count-smaller c =
    let l = c in
    sifting_less _ _ _ _ l.args.w.opens _ _ _ _ _ _ l.loop-count.invariant _ _ c.take_out-e.ensures

pub loop-count-preserved : goal.loop-count-preserved
loop-count-preserved c =
    let l = c in
    let t = c in
    sifting_meet _ _ _ _ l.args.w.opens _ _ _ _ _ _ l.loop-count.invariant _ _ c.take_out-e.ensures c.if-e-w.false _ t.consider_at.auto.bits t.consider_at.ensures

pub returns : goal.returns
returns c =
    let cleared : length c.clear.new.bits ≡ length c.args.bits.now = c.clear.auto.bits in
    let l = c in
    let p = l.requires in
    let e = sifting_end _ _ _ _ l.args.w.opens _ _ _ _ _ _ l.loop-count.invariant _ cleared c.loop-count-test.false in
    (e.0, e.1, wiped_all _ _ _ _ _ _ l.put_root-count.ensures.2 l.loop-count.invariant.going.past c.wipe.ensures)
