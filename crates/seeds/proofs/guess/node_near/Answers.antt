use native.Mathlib.Omega.{arith}
use Rattle.walk.proofs.NodeLaws.{box_fits}
use Rattle.seeds.proofs.guess.node_near.Goals as goal

pub away-least-requires : goal.away-least-requires
away-least-requires c =
    let p = c.requires in
    (p.0, box_fits _ _ _ c.args.w.opens _ _ (omega (arith, p.1, p.2)) c.box_at.ensures)

pub away-d-requires : goal.away-d-requires
away-d-requires c =
    let p = c.requires in
    (p.0, box_fits _ _ _ c.args.w.opens _ _ (omega (arith, c.loop-k-test.true, p.2)) c.box_at-in-loop-k.ensures)
