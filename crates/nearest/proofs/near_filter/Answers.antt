-- `nearest::near_filter` meets its contract, number by number. Assumes nothing.
use mathlib.Core.Path.{refl}
use native.Mathlib.Omega.{arith}
use Rattle.nearest.specs.Nearest.{unplaced_at}
use Rattle.nearest.proofs.ChamberLaws.{placed_facts}
use Rattle.nearest.proofs.AnswerLaws.{near_filter_chamber, near_filter_few, near_filter_room, near_filter_asked, near_filter_walks}
use Rattle.nearest.proofs.near_filter.Goals as goal

pub returns-in-Err : goal.returns-in-Err
unfolding unplaced_at
returns-in-Err c =
    let a = c.args in
    let k = c.in-Err.ensures in
    near_filter_chamber _ _ _ a.waiting.now a.bits.now _ k.1 k.0 _ c.unkept.ensures

pub returns-then-bits-w : goal.returns-then-bits-w
returns-then-bits-w c =
    let a = c.args in
    near_filter_few _ _ _ a.waiting.now a.bits.now _ c.in-Ok.ensures.1 refl _ c.words_for-w.ensures c.if-bits-w.true _ c.unkept-then-bits-w.ensures

pub overflow_add-ps : goal.overflow_add-ps
overflow_add-ps c = let o = c.in-Ok.found.0.opens in omega (arith, o.n_le, o.m_le)

pub returns-then-waiting-ps : goal.returns-then-waiting-ps
returns-then-waiting-ps c =
    let a = c.args in
    near_filter_room _ _ _ a.waiting.now a.bits.now _ c.in-Ok.ensures.1 refl _ c.words_for-w.ensures c.if-bits-w.false c.if-waiting-ps.true _ c.unkept-then-waiting-ps.ensures

pub kept_on-requires : goal.kept_on-requires
kept_on-requires c =
    let a = c.args in
    let e = c.in-Ok.ensures.1 in
    ((placed_facts _ _ _ _ e refl).within, c.if-waiting-ps.false, near_filter_asked _ _ _ a.waiting.now a.bits.now _ e refl _ c.words_for-w.ensures c.if-bits-w.false)

pub returns : goal.returns
returns c =
    let a = c.args in
    let o = c.in-Ok.ensures in
    let k = rw o.0 at c.kept_on.ensures in
    near_filter_walks _ _ _ a.waiting.now a.bits.now _ o.1 refl _ c.words_for-w.ensures c.if-bits-w.false c.if-waiting-ps.false _ refl _ k.0 _ k.1 _ k.2
