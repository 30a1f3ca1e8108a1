-- `ranked::check::checked` meets its contract, number by number. Assumes nothing.
use mathlib.Core.Path.{sym, ◌∙◌}
use Rattle.ring.proofs.HeadLaws.{handed_on}
use Rattle.ranked.proofs.AskedLaws.{asked_p, asked_q, asked_rest, asked_ready}
use Rattle.ranked.proofs.check.checked.Goals as goal

pub returns-in_err-ps : goal.returns-in_err-ps
returns-in_err-ps c =
    let s = c.args in
    let k = c.in_err-ps.ensures in
    handed_on c.from_residual.result _ _ _ c.from_residual.ensures.1 (asked_p _ _ s.owners.now s.asked _ k.0 k.1, k.1)

pub returns-in_err-qs : goal.returns-in_err-qs
returns-in_err-qs c =
    let s = c.args in
    let k = c.in_err-qs.ensures in
    handed_on c.from_residual-in_err-qs.result _ _ _ c.from_residual-in_err-qs.ensures.1
    (asked_q _ _ s.owners.now s.asked c.in_ok-ps.ensures.0 _ k.0 k.1, k.1)

pub returns-then-no-ne0 : goal.returns-then-no-ne0
returns-then-no-ne0 c =
    let s = c.args in
    let a = c.in_ok-ps.ensures in
    let b = c.in_ok-qs.ensures in
    (asked_rest _ _ s.owners.now s.asked a.0 b.0 _ b.1 _ _ c.in_ok-qs.qs.opens _ c.rest_no-no.ensures, c.if-no-ne0.true)

pub returns : goal.returns
returns c =
    let s = c.args in
    let a = c.in_ok-ps.ensures in
    let b = c.in_ok-qs.ensures in
    let z = c.if-no-ne0.false in
    let r = c.rest_no-no.ensures in (
      sym (asked_rest _ _ s.owners.now s.asked a.0 b.0 _ b.1 _ _ c.in_ok-qs.qs.opens _ r) ∙ z,
      record { p_is = a.1; q_is = b.1 },
      asked_ready _ _ s.owners.now s.asked a.0 b.0 _ b.1 _ _ c.in_ok-qs.qs.opens _ r z _ a.1 _ _ c.in_ok-ps.ps.opens,
    )
