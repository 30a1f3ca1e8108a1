-- `many::check::checked_own` meets its contract, number by number. Assumes nothing.
use mathlib.Core.Path.{refl, sym, ◌∙◌}
use Rattle.ring.proofs.HeadLaws.{handed_on, head_shut, head_opened}
use Rattle.many.proofs.CheckLaws.{own_p, own_rest, many_own_served}
use Rattle.many.proofs.check.checked_own.Goals as goal

pub returns-in_err-own : goal.returns-in_err-own
returns-in_err-own c =
    let s = c.args in
    let k = c.in_err-own.ensures in
    handed_on c.from_residual.result _ _ _ c.from_residual.ensures.1 (own_p _ s.key s.largest s.grid s.len _ (head_shut _ _ (sym k.0) k.1) k.1, k.1)

pub returns-then-no-ne0 : goal.returns-then-no-ne0
returns-then-no-ne0 c =
    let s = c.args in
    let o = c.in_ok-own.ensures in
    (own_rest _ s.key s.largest s.grid s.len _ (head_opened _ _ _ _ o.0 o.1 c.in_ok-own.own.opens) refl _ c.words_for-words.ensures _ c.rest_no-no.ensures, c.if-no-ne0.true)

pub returns : goal.returns
returns c =
    let s = c.args in
    let o = c.in_ok-own.ensures in
    let h = head_opened _ _ _ _ o.0 o.1 c.in_ok-own.own.opens in
    let z = c.if-no-ne0.false in (
      sym (own_rest _ s.key s.largest s.grid s.len _ h refl _ c.words_for-words.ensures _ c.rest_no-no.ensures) ∙ z,
      record { p_is = o.1; q_is = o.1 },
      many_own_served _ s.key s.largest s.grid s.len _ h refl _ c.words_for-words.ensures _ c.rest_no-no.ensures z,
    )
