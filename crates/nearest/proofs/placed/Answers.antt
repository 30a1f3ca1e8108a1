-- `nearest::placed` meets its contract, number by number. Assumes nothing.
use mathlib.Core.Path.{refl}
use native.Mathlib.Omega.{arith}
use Rattle.ring.proofs.HeadLaws.{handed_on, heads_shut_p, heads_shut_q, heads_opened_both}
use Rattle.nearest.proofs.ChamberLaws.{placed_shut, placed_unknown, placed_here}
use Rattle.nearest.proofs.placed.Goals as goal

pub returns-in_err-ps : goal.returns-in_err-ps
returns-in_err-ps c =
    let k = c.in_err-ps.ensures in
    handed_on c.from_residual.result _ _ _ c.from_residual.ensures.1 (k.1, placed_shut _ _ _ _ (heads_shut_p _ _ _ k.0 k.1) k.1)

pub returns-in_err-qs : goal.returns-in_err-qs
returns-in_err-qs c =
    let k = c.in_err-qs.ensures in
    handed_on c.from_residual-in_err-qs.result _ _ _ c.from_residual-in_err-qs.ensures.1 (k.1, placed_shut _ _ _ _ (heads_shut_q _ _ c.in_ok-ps.ensures.0 _ k.0 k.1) k.1)

pub returns-then-qs-j : goal.returns-then-qs-j
returns-then-qs-j c =
    let a = c.in_ok-ps.ensures in
    let b = c.in_ok-qs.ensures in
    let e = heads_opened_both _ _ _ _ _ _ _ _ a.0 a.1 c.in_ok-ps.ps.opens b.0 b.1 c.in_ok-qs.qs.opens in
    (λ z. absurd (omega arith), placed_unknown _ _ _ _ e refl _ (rw b.1 at c.position_of-j.ensures) c.if-qs-j.true)

pub returns : goal.returns
returns c =
    let a = c.in_ok-ps.ensures in
    let b = c.in_ok-qs.ensures in
    let e = heads_opened_both _ _ _ _ _ _ _ _ a.0 a.1 c.in_ok-ps.ps.opens b.0 b.1 c.in_ok-qs.qs.opens in
    (a.1, placed_here _ _ _ _ e refl _ (rw b.1 at c.position_of-j.ensures) c.if-qs-j.false _ (rw b.1 at c.spot_at.ensures))
