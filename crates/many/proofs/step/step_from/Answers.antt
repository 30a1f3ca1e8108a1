-- `many::step::step_from` meets its contract. Assumes nothing.
use mathlib.Core.Path.{refl, ◌∙◌}
use native.Mathlib.Omega.{arith}
use Rattle.bits.proofs.LentLaws.{part_long, lent_holds}
use Rattle.many.proofs.StepLaws.{part_past, stand_after, ahead_room, ahead_full}
use Rattle.many.proofs.step.step_from.Goals as goal

pub advance-c-requires : goal.advance-c-requires
advance-c-requires c =
    let t = c.requires.0 in
    let a = t.able in
    (a.alone, lent_holds _ _ (omega (arith, a.p_opens.n_le)) (part_long _ _ a.lent ∙ a.needed), t.held)

pub returns-then-count-len : goal.returns-then-count-len
returns-then-count-len c =
    let s = c in
    let t = s.requires.0 in
    let d = c.advance-c in
    let k = d.auto.bits in
    (stand_after _ _ _ s.args.len _ _ t _ k _ _ _ d.ensures _ _ _, ahead_room _ _ _ s.args.len _ _ t _ k _ _ _ d.ensures c.if-hp-c.false _ c.pair_by-pair.ensures c.if-count-len.true, refl, refl, d.ensures.same, part_past s.args.bits.now _ t.able.lent d.new.bits k)

pub invariant_of-ps : goal.invariant_of-ps
invariant_of-ps c = record { opens = c.requires.0.able.p_opens }

pub invariant_of-qs : goal.invariant_of-qs
invariant_of-qs c = record { opens = c.requires.0.able.q_opens }

pub returns : goal.returns
returns c =
    let s = c in
    let t = s.requires.0 in
    let d = c.advance-c in
    let k = d.auto.bits in
    (stand_after _ _ _ s.args.len _ _ t _ k _ _ _ d.ensures _ _ _, ahead_full _ _ _ s.args.len _ _ t _ k _ _ _ d.ensures c.if-hp-c.false _ c.pair_by-pair.ensures c.if-count-len.false, refl, refl, d.ensures.same, part_past s.args.bits.now _ t.able.lent d.new.bits k)
