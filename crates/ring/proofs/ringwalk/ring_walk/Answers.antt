-- `ring::ringwalk::ring_walk` meets its contract: refused by the sheets' number, by 29 for a form, by 9 past the points of Q or of P, and else the walk's answer.
-- Assumes nothing.
use mathlib.Core.Path.{refl, ◌∙◌}
use Rattle.ring.specs.Numbers.{grid_no}
use Rattle.ring.proofs.HeadLaws.{handed_as}
use Rattle.ring.proofs.RingLaws.{ring_sheets, ring_forms, ring_past_q, ring_past_p, ring_walks}
use Rattle.ring.proofs.ringwalk.ring_walk.Goals as goal

pub returns-in_err-ps : goal.returns-in_err-ps
returns-in_err-ps c =
    let k = c.in_err-ps.ensures in
    handed_as c.from_residual.result _ c.from_residual.ensures.1 ∙ ring_sheets _ _ _ _ _ _ k.1 k.0

pub returns-then-form-ne0 : goal.returns-then-form-ne0
unfolding grid_no
returns-then-form-ne0 c = ring_forms _ _ _ _ _ _ c.in_ok-ps.ensures.1 refl _ c.grid_no-form.ensures c.if-form-ne0.true

pub returns-then-qs-j : goal.returns-then-qs-j
unfolding grid_no
returns-then-qs-j c = ring_past_q _ _ _ _ _ _ c.in_ok-ps.ensures.1 refl _ c.grid_no-form.ensures c.if-form-ne0.false c.if-qs-j.true

pub returns-then-ps-i : goal.returns-then-ps-i
unfolding grid_no
returns-then-ps-i c = ring_past_p _ _ _ _ _ _ c.in_ok-ps.ensures.1 refl _ c.grid_no-form.ensures c.if-form-ne0.false c.if-qs-j.false c.if-ps-i.true

pub returns : goal.returns
unfolding grid_no
returns c =
    let o = c.in_ok-ps.ensures in
    ring_walks _ _ _ _ _ _ o.1 refl _ c.grid_no-form.ensures c.if-form-ne0.false _ c.if-qs-j.false c.if-ps-i.false (rw (o.0.p_is, o.0.q_is) at c.pair_walk_by.ensures)
