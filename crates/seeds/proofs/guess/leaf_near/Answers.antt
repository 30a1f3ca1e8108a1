use native.Mathlib.Omega.{arith}
use Rattle.seeds.proofs.CoverLaws.{node_read, node_runs, node_below}
use Rattle.seeds.proofs.guess.leaf_near.Goals as goal

pub node_near-at-requires : goal.node_near-at-requires
node_near-at-requires c =
    let node = node_read c.args.w.opens c.loop-level.invariant.0 c.loop-level.invariant.1 c.first_at-first.ensures c.count_at-count.ensures in
    let r = node_runs _ _ _ _ _ _ _ node (omega (arith, c.loop-level-test.true)) in
    (c.requires.0, r.0, r.1)

pub level_at-level-requires-in-loop-level : goal.level_at-level-requires-in-loop-level
level_at-level-requires-in-loop-level c =
    let node = node_read c.args.w.opens c.loop-level.invariant.0 c.loop-level.invariant.1 c.first_at-first.ensures c.count_at-count.ensures in
    (node_below _ _ _ _ _ _ _ node (omega (arith, c.loop-level-test.true)) _ c.node_near-at.ensures.0 c.node_near-at.ensures.1).0

pub loop-level-smaller : goal.loop-level-smaller
loop-level-smaller c =
    let node = node_read c.args.w.opens c.loop-level.invariant.0 c.loop-level.invariant.1 c.first_at-first.ensures c.count_at-count.ensures in
    let next = node_below _ _ _ _ _ _ _ node (omega (arith, c.loop-level-test.true)) _ c.node_near-at.ensures.0 c.node_near-at.ensures.1 in
    omega (arith, c.level_at-level-in-loop-level.ensures, next.1, c.loop-level-test.true)

pub loop-level-preserved : goal.loop-level-preserved
loop-level-preserved c =
    let node = node_read c.args.w.opens c.loop-level.invariant.0 c.loop-level.invariant.1 c.first_at-first.ensures c.count_at-count.ensures in
    ((node_below _ _ _ _ _ _ _ node (omega (arith, c.loop-level-test.true)) _ c.node_near-at.ensures.0 c.node_near-at.ensures.1).0, c.level_at-level-in-loop-level.ensures)
