use mathlib.Core.Path.{◌∙◌}
use Rattle.sheet.proofs.BoxLaws.{around_more, around_one}
use Rattle.sheet.proofs.boxes.tightest.Goals as goal

pub loop-i-init : goal.loop-i-init
loop-i-init c = c.part-o.ensures ∙ around_one _ _ _ _

pub loop-i-preserved : goal.loop-i-preserved
loop-i-preserved c =
    let l = c in
    around_more _ _ _ _ _ c.around-o.ensures l.loop-i.invariant c.part.ensures
