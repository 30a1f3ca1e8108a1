-- `nearest::nearest` meets its contract, number by number. Assumes nothing.
use mathlib.Core.Path.{refl, sym, ◌∙◌}
use native.Mathlib.Omega.{arith}
use Rattle.list.proofs.PageLaws.{size_fits}
use Rattle.nearest.specs.Nearest.{unplaced_at}
use Rattle.nearest.proofs.ChamberLaws.{placed_facts}
use Rattle.nearest.proofs.AnswerLaws.{nearest_chamber, nearest_size, nearest_room, nearest_call_given}
use Rattle.nearest.proofs.nearest.Goals as goal

pub returns-in-Err : goal.returns-in-Err
unfolding unplaced_at
returns-in-Err c = let k = c.in-Err.ensures in nearest_chamber _ _ _ _ _ _ k.1 k.0 _ c.refused.ensures

pub returns-then-no-ne0 : goal.returns-then-no-ne0
returns-then-no-ne0 c = nearest_size _ _ _ _ _ _ c.in-Ok.ensures.1 refl _ c.size_no-no.ensures c.if-no-ne0.true _ c.refused-then-no-ne0.ensures

pub overflow_add-ps : goal.overflow_add-ps
overflow_add-ps c = let o = c.in-Ok.found.0.opens in omega (arith, o.n_le, o.m_le)

pub returns-then-waiting-ps : goal.returns-then-waiting-ps
returns-then-waiting-ps c = nearest_room _ _ _ _ _ _ c.in-Ok.ensures.1 refl _ c.size_no-no.ensures c.if-no-ne0.false c.if-waiting-ps.true _ c.refused-then-waiting-ps.ensures

pub given-requires : goal.given-requires
given-requires c =
    let o = placed_facts _ _ _ _ c.in-Ok.ensures.1 refl in
    (o.within, (size_fits _ (sym c.size_no-no.ensures ∙ c.if-no-ne0.false)).1, c.if-waiting-ps.false)

pub returns : goal.returns
returns c =
    let o = c.in-Ok.ensures in
    let g = rw o.0 at c.given.ensures in
    nearest_call_given _ _ _ _ _ _ o.1 refl _ c.size_no-no.ensures c.if-no-ne0.false c.if-waiting-ps.false _ _ _ refl g.0 g.1
