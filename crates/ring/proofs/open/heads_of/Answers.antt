-- `ring::open::heads_of` meets its contract: P's number, or with P open Q's, or both open.
-- Assumes nothing.
use Rattle.ring.proofs.HeadLaws.{handed_on, heads_shut_p, heads_shut_q, heads_opened_both}
use Rattle.ring.proofs.open.heads_of.Goals as goal

pub returns-in_err-ps : goal.returns-in_err-ps
returns-in_err-ps c =
    let k = c.in_err-ps.ensures in
    handed_on c.from_residual.result _ _ _ c.from_residual.ensures.1 (k.1, heads_shut_p _ _ _ k.0 k.1)

pub returns-in_err-qs : goal.returns-in_err-qs
returns-in_err-qs c =
    let k = c.in_err-qs.ensures in
    handed_on c.from_residual-in_err-qs.result _ _ _ c.from_residual-in_err-qs.ensures.1 (k.1, heads_shut_q _ _ c.in_ok-ps.ensures.0 _ k.0 k.1)

pub returns : goal.returns
returns c =
    let a = c.in_ok-ps.ensures in
    let b = c.in_ok-qs.ensures in
    (record { p_is = a.1; q_is = b.1 }, heads_opened_both _ _ _ _ _ _ _ _ a.0 a.1 c.in_ok-ps.ps.opens b.0 b.1 c.in_ok-qs.qs.opens)
