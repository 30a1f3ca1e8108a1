-- `join::walked` meets its contract: of a self join the one ring walk, else that of both sheets. Assumes nothing.
use native.Mathlib.Omega.{arith}
use Rattle.join.proofs.CallLaws.{join_spot_fits}
use Rattle.join.proofs.KindLaws.{walked_once}
use Rattle.join.proofs.walked.Goals as goal

pub ring_on-requires : goal.ring_on-requires
ring_on-requires c =
    let s = c in
    (join_spot_fits s.args.q.opens _ _ s.requires.0 c.spot_at-a.ensures, join_spot_fits s.args.p.opens _ _ s.requires.1 c.spot_at-b.ensures, omega arith)

pub returns-then-terms : goal.returns-then-terms
returns-then-terms c words =
    let b = c in
    let a = b in
    walked_once a.args.terms _ _ words _ _ _ a.if-terms.true _ _ a.spot_at-a.ensures b.spot_at-b.ensures c.ring_on.ensures
