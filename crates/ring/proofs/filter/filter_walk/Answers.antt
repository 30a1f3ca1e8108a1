-- `ring::filter::filter_walk` meets its contract, number by number. Assumes nothing.
use mathlib.Core.Path.{refl, sym, subst, ◌∙◌}
use native.Mathlib.Omega.{arith}
use Rattle.bits.proofs.LentLaws.{lent_holds, part_long}
use Rattle.plane.specs.Rule.{SpotIn}
use Rattle.sheet.proofs.RangeLaws.{spot_in}
use Rattle.ring.proofs.FilterLaws.{filter_sheets, filter_past, filter_short, filter_walks}
use Rattle.ring.proofs.filter.filter_walk.Goals as goal

pub returns-in-Err : goal.returns-in-Err
returns-in-Err c =
    let k = c.in-Err.ensures in
    let z = filter_sheets _ _ _ c.args.bits.now _ k.1 k.0 in
    (c.refused.ensures ∙ z.0, z.1)

pub returns-then-qs-j : goal.returns-then-qs-j
returns-then-qs-j c =
    let z = filter_past _ _ _ c.args.bits.now _ c.in-Ok.ensures.1 refl c.if-qs-j.true in
    (c.refused-then-qs-j.ensures ∙ z.0, z.1)

pub returns-then-bits-w : goal.returns-then-bits-w
returns-then-bits-w c =
    let z = filter_short _ _ _ c.args.bits.now _ c.in-Ok.ensures.1 refl c.if-qs-j.false _ c.words_for-w.ensures c.if-bits-w.true in
    (c.refused-then-bits-w.ensures ∙ z.0, z.1)

pub kept_on-requires : goal.kept_on-requires
kept_on-requires c =
    let s = c.in-Ok.both in
    (subst SpotIn (sym c.spot_at.ensures) (spot_in s.1.opens _ c.if-qs-j.false), lent_holds _ _ (omega (arith, s.0.opens.n_le)) (part_long _ _ c.if-bits-w.false ∙ c.words_for-w.ensures))

pub returns : goal.returns
returns c =
    let o = c.in-Ok.ensures in
    let k = rw o.0.p_is at c.kept_on.ensures in
    filter_walks _ _ _ c.args.bits.now _ o.1 refl c.if-qs-j.false _ c.words_for-w.ensures c.if-bits-w.false _ (rw o.0.q_is at c.spot_at.ensures) _ k.0 _ k.1
