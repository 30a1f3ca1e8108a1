-- `ring::own::own_page` meets its contract, number by number. Assumes nothing.
use mathlib.Core.Path.{refl, sym, ◌∙◌}
use Rattle.bits.proofs.LentLaws.{part_long}
use Rattle.ring.proofs.HeadLaws.{head_shut, head_opened}
use Rattle.ring.proofs.PageLaws.{size_in}
use Rattle.ring.proofs.OwnLaws.{own_shut, own_asked, own_short, own_made, of_one}
use Rattle.ring.proofs.own.own_page.Goals as goal

pub returns-in-Err : goal.returns-in-Err
returns-in-Err c =
    let k = c.in-Err.ensures in
    own_shut _ _ _ _ c.args.bits.now _ (head_shut _ _ (sym k.0) k.1) _ k.1 c.refused.ensures

pub returns-then-asked-ne0 : goal.returns-then-asked-ne0
returns-then-asked-ne0 c =
    let o = c.in-Ok.ensures in
    own_asked _ _ _ _ c.args.bits.now _ (head_opened _ _ _ _ o.0 o.1 c.in-Ok.own.opens) _ refl _ c.asked_no-asked.ensures c.if-asked-ne0.true c.refused-then-asked-ne0.ensures

pub returns-then-bits-w : goal.returns-then-bits-w
returns-then-bits-w c =
    let o = c.in-Ok.ensures in
    own_short _ _ _ _ c.args.bits.now _ (head_opened _ _ _ _ o.0 o.1 c.in-Ok.own.opens) _ refl _ c.asked_no-asked.ensures c.if-asked-ne0.false _ c.words_for-w.ensures c.if-bits-w.true c.refused-then-bits-w.ensures

pub given-requires : goal.given-requires
given-requires c =
    (size_in _ _ _ _ _ _ c.asked_no-asked.ensures c.if-asked-ne0.false, part_long _ _ c.if-bits-w.false ∙ c.words_for-w.ensures, of_one _ _)

pub returns : goal.returns
returns c =
    let o = c.in-Ok.ensures in
    let g = rw o.1 at c.given.ensures in
    own_made _ _ _ _ c.args.bits.now _ (head_opened _ _ _ _ o.0 o.1 c.in-Ok.own.opens) _ refl _ c.asked_no-asked.ensures c.if-asked-ne0.false _ c.words_for-w.ensures c.if-bits-w.false g.0 _ g.1
