use native.Mathlib.Omega.{arith}
use Rattle.outward.proofs.WaitingLaws.{filled_small, filled_kind, filled_step, filled_end}
use Rattle.outward.proofs.waiting.put_covered.Goals as goal

pub overflow_add-first : goal.overflow_add-first
overflow_add-first c =
    let l = c in
    let p = l.requires in
    omega (arith, filled_small _ _ _ _ _ l.args.w.opens p.1 _ _ _ _ _ _ l.first_at-first.ensures l.count_at-more.ensures l.loop-i.invariant c.loop-i-test.true, l.args.w.opens.n_le, l.args.w.opens.m_le)

pub put-requires : goal.put-requires
put-requires c =
    let l = c in
    let p = l.requires in (
      p.0,
      filled_kind _ _ _ _ _ l.args.w.opens p.1 _ _ _ _ _ _ l.first_at-first.ensures l.count_at-more.ensures l.loop-i.invariant c.loop-i-test.true _ c.covered_at-e.ensures,
      l.loop-i.invariant.heap,
      omega (arith, c.loop-i-test.true, p.3, l.count_at-more.ensures),
      omega (arith, p.4, l.loop-i.invariant.past.long),
    )

pub loop-i-preserved : goal.loop-i-preserved
loop-i-preserved c =
    let l = c in
    let p = l.requires in
    let t = c in
    filled_step _ _ _ _ _ l.args.w.opens p.1 _ _ _ _ _ _ l.first_at-first.ensures l.count_at-more.ensures l.loop-i.invariant _ _ c.loop-i-test.true c.covered_at-e.ensures t.put.ensures.0 t.put.ensures.1 t.put.ensures.2

pub returns : goal.returns
returns c =
    let l = c in
    let p = l.requires in
    filled_end _ _ _ _ _ l.args.w.opens p.1 _ _ _ _ _ _ l.first_at-first.ensures l.count_at-more.ensures l.loop-i.invariant c.loop-i-test.false
