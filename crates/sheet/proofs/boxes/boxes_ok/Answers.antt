use mathlib.Core.Path.{sym, ◌∙◌}
use Rattle.words.proofs.AllLaws.{all_none, all_more, all_stop, all_done}
use Rattle.sheet.specs.Boxes.{boxes_ok}
use Rattle.sheet.proofs.boxes.boxes_ok.Goals as goal

pub loop-j-init : goal.loop-j-init
loop-j-init c = all_none _

pub returns-then-not-box_ok : goal.returns-then-not-box_ok
unfolding boxes_ok
returns-then-not-box_ok c =
    let t = c in
    all_stop _ _ _ t.loop-j-test.true (sym c.box_ok.ensures ∙ c.if-not-box_ok.true)

pub loop-j-preserved : goal.loop-j-preserved
loop-j-preserved c =
    let t = c in
    all_more _ _ t.loop-j.invariant (sym c.box_ok.ensures ∙ c.if-not-box_ok.false)

pub returns : goal.returns
unfolding boxes_ok
returns c = all_done _ _ _ c.loop-j.auto.j-end c.loop-j-test.false c.loop-j.invariant
