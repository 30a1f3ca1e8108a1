use Rattle.brute.proofs.Runs.{row_passed}
use Rattle.brute.proofs.next.Goals as goal

pub returns-then-at-np : goal.returns-then-at-np
returns-then-at-np c =
    let f = c.first_from-at.ensures in
    let l = c.loop-row in
    record { here = λ h. (c.if-at-np.true, f.is c.if-at-np.true); rows = l.invariant.0; row = λ k u h b. f.skipped k (l.invariant.1 k u) b }

pub loop-row-preserved : goal.loop-row-preserved
loop-row-preserved c = row_passed _ _ _ _ _ _ _ _ c.loop-row.invariant c.first_from-at.ensures c.if-at-np.false
