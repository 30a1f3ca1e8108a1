-- `ring::least::partners` meets its contract, number by number. Assumes nothing.
use mathlib.Core.Path.{refl, ◌∙◌}
use native.Mathlib.Omega.{arith}
use Rattle.bits.proofs.LentLaws.{lent_holds, part_long}
use Rattle.ring.proofs.PartnersLaws.{partners_sheets, partners_unknown, partners_least, partners_short, partners_counted}
use Rattle.ring.proofs.least.partners.Goals as goal

pub returns-in-Err : goal.returns-in-Err
returns-in-Err c = let k = c.in-Err.ensures in partners_sheets _ _ _ _ c.args.bits.now _ k.1 _ k.0 c.refused.ensures

pub returns-then-qs-j : goal.returns-then-qs-j
returns-then-qs-j c =
    let o = c.in-Ok.ensures in
    partners_unknown _ _ _ _ c.args.bits.now _ o.1 _ refl _ (rw o.0.q_is at c.position_of-j.ensures) c.if-qs-j.true c.refused-then-qs-j.ensures

pub returns-then-no-ne0 : goal.returns-then-no-ne0
returns-then-no-ne0 c =
    let o = c.in-Ok.ensures in
    partners_least _ _ _ _ c.args.bits.now _ o.1 _ refl _ (rw o.0.q_is at c.position_of-j.ensures) c.if-qs-j.false _ c.least_no-no.ensures c.if-no-ne0.true c.refused-then-no-ne0.ensures

pub returns-then-bits-w : goal.returns-then-bits-w
returns-then-bits-w c =
    let o = c.in-Ok.ensures in
    partners_short _ _ _ _ c.args.bits.now _ o.1 _ refl _ (rw o.0.q_is at c.position_of-j.ensures) c.if-qs-j.false _ c.least_no-no.ensures c.if-no-ne0.false _ c.words_for-w.ensures c.if-bits-w.true c.refused-then-bits-w.ensures

pub counted-count-requires : goal.counted-count-requires
counted-count-requires c =
    (c.if-qs-j.false, lent_holds _ _ (omega (arith, c.in-Ok.both.0.opens.n_le)) (part_long _ _ c.if-bits-w.false ∙ c.words_for-w.ensures))

pub returns : goal.returns
returns c =
    let o = c.in-Ok.ensures in
    let k = rw (o.0.p_is, o.0.q_is) at c.counted-count.ensures in
    partners_counted _ _ _ _ c.args.bits.now _ o.1 _ refl _ (rw o.0.q_is at c.position_of-j.ensures) c.if-qs-j.false _ c.least_no-no.ensures c.if-no-ne0.false _ c.words_for-w.ensures c.if-bits-w.false _ k.0 refl _ k.1
