use Rattle.join.proofs.CallLaws.{scan_start, scan_on, scan_stop}
use Rattle.join.proofs.first_from.Goals as goal

pub loop-j-init : goal.loop-j-init
loop-j-init c = scan_start _ _

pub returns-then-id_at-key : goal.returns-then-id_at-key
returns-then-id_at-key c =
    let i = c in
    let l = i in
    scan_stop _ _ _ _ _ l.loop-j.invariant c.id_at.ensures c.if-id_at-key.true i.loop-j-test.true

pub loop-j-preserved : goal.loop-j-preserved
loop-j-preserved c =
    let i = c in
    let l = i in
    scan_on _ _ _ _ l.loop-j.invariant i.id_at.ensures c.if-id_at-key.false
