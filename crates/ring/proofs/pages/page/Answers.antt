-- `ring::pages::page` meets its contract, number by number. Assumes nothing.
use mathlib.Core.Path.{refl, ◌∙◌}
use Rattle.bits.proofs.LentLaws.{part_long}
use Rattle.ring.proofs.PageLaws.{request_size, page_sheets, page_asked, page_short, page_made_lem, of_two}
use Rattle.ring.proofs.pages.page.Goals as goal

pub returns-in-Err : goal.returns-in-Err
returns-in-Err c =
    let s = c.args in
    let k = c.in-Err.ensures in
    page_sheets _ _ s.owners.now s.request s.bits.now _ k.1 _ k.0 c.refused.ensures

pub returns-then-asked-ne0 : goal.returns-then-asked-ne0
returns-then-asked-ne0 c =
    let s = c.args in
    page_asked _ _ s.owners.now s.request s.bits.now _ c.in-Ok.ensures.1 _ refl _ c.request_no-asked.ensures c.if-asked-ne0.true c.refused-then-asked-ne0.ensures

pub returns-then-bits-w : goal.returns-then-bits-w
returns-then-bits-w c =
    let s = c.args in
    page_short _ _ s.owners.now s.request s.bits.now _ c.in-Ok.ensures.1 _ refl _ c.request_no-asked.ensures c.if-asked-ne0.false _ c.words_for-w.ensures c.if-bits-w.true c.refused-then-bits-w.ensures

pub given-requires : goal.given-requires
given-requires c =
    let s = c.args in
    (request_size _ _ _ _ s.request c.request_no-asked.ensures c.if-asked-ne0.false, part_long _ _ c.if-bits-w.false ∙ c.words_for-w.ensures, of_two _ refl _ _)

pub returns : goal.returns
returns c =
    let s = c.args in
    let o = c.in-Ok.ensures in
    let g = rw (o.0.p_is, o.0.q_is) at c.given.ensures in
    page_made_lem _ _ s.owners.now s.request s.bits.now _ o.1 _ refl _ c.request_no-asked.ensures c.if-asked-ne0.false _ c.words_for-w.ensures c.if-bits-w.false g.0 _ g.1
