-- `many::check::checked_both` meets its contract, number by number. Assumes nothing.
use mathlib.Core.Path.{refl, sym, ◌∙◌}
use Rattle.ring.proofs.HeadLaws.{handed_on, heads_shut_p, heads_shut_q, heads_opened_both}
use Rattle.many.proofs.CheckLaws.{pairs_shut, pairs_rest, pairs_served}
use Rattle.many.proofs.check.checked_both.Goals as goal

pub returns-in_err-ps : goal.returns-in_err-ps
returns-in_err-ps c =
    let s = c.args in
    let k = c.in_err-ps.ensures in
    handed_on c.from_residual.result _ _ _ c.from_residual.ensures.1 (pairs_shut _ _ s.owners.now s.wanted s.len _ (heads_shut_p _ _ _ k.0 k.1) k.1, k.1)

pub returns-in_err-qs : goal.returns-in_err-qs
returns-in_err-qs c =
    let s = c.args in
    let k = c.in_err-qs.ensures in
    handed_on c.from_residual-in_err-qs.result _ _ _ c.from_residual-in_err-qs.ensures.1
    (pairs_shut _ _ s.owners.now s.wanted s.len _ (heads_shut_q _ _ c.in_ok-ps.ensures.0 _ k.0 k.1) k.1, k.1)

pub returns-then-no-ne0 : goal.returns-then-no-ne0
returns-then-no-ne0 c =
    let s = c.args in
    let a = c.in_ok-ps.ensures in
    let b = c.in_ok-qs.ensures in
    let e = heads_opened_both _ _ _ _ _ _ _ _ a.0 a.1 c.in_ok-ps.ps.opens b.0 b.1 c.in_ok-qs.qs.opens in
    (pairs_rest _ _ s.owners.now s.wanted s.len _ e refl _ c.words_for-words.ensures _ c.rest_no-no.ensures, c.if-no-ne0.true)

pub returns : goal.returns
returns c =
    let s = c.args in
    let a = c.in_ok-ps.ensures in
    let b = c.in_ok-qs.ensures in
    let e = heads_opened_both _ _ _ _ _ _ _ _ a.0 a.1 c.in_ok-ps.ps.opens b.0 b.1 c.in_ok-qs.qs.opens in
    let z = c.if-no-ne0.false in (
      sym (pairs_rest _ _ s.owners.now s.wanted s.len _ e refl _ c.words_for-words.ensures _ c.rest_no-no.ensures) ∙ z,
      record { p_is = a.1; q_is = b.1 },
      pairs_served _ _ s.owners.now s.wanted s.len _ e refl _ c.words_for-words.ensures _ c.rest_no-no.ensures z,
    )
