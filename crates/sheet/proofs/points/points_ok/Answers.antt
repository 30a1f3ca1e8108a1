use mathlib.Core.Path.{ap, refl, sym, ◌∙◌}
use mathlib.Core.Bool.{not}
use borrow.Author.Tests.{not-true, not-false}
use Rattle.words.proofs.Signs.{handed}
use Rattle.words.proofs.AllLaws.{all_none, all_more, all_stop, all_done}
use Rattle.sheet.specs.Points.{points_ok, id_before}
use Rattle.sheet.proofs.PointLaws.{point_found, id_next}
use Rattle.sheet.proofs.points.points_ok.Goals as goal

pub loop-i-init : goal.loop-i-init
unfolding id_before
loop-i-init c = (all_none _, refl)

pub returns-then-not-point_ok : goal.returns-then-not-point_ok
unfolding points_ok
returns-then-not-point_ok c =
    let e = point_found _ _ _ c.point_ok.ensures c.loop-i.invariant.1 (handed c.word-id.type_inv c.word-id.ensures) (handed c.word-x.type_inv c.word-x.ensures) (handed c.word-y.type_inv c.word-y.ensures) in
    all_stop _ _ _ c.loop-i-test.true (sym e ∙ not-true _ (ap not c.if-not-point_ok.true))

pub loop-i-preserved : goal.loop-i-preserved
loop-i-preserved c =
    let e = point_found _ _ _ c.point_ok.ensures c.loop-i.invariant.1 (handed c.word-id.type_inv c.word-id.ensures) (handed c.word-x.type_inv c.word-x.ensures) (handed c.word-y.type_inv c.word-y.ensures) in
    (all_more _ _ c.loop-i.invariant.0 (sym e ∙ not-false _ (ap not c.if-not-point_ok.false)), handed c.word-id.type_inv (c.word-id.ensures ∙ id_next _ _))

pub returns : goal.returns
unfolding points_ok
returns c = all_done _ _ _ c.loop-i.auto.i-end c.loop-i-test.false c.loop-i.invariant.0
