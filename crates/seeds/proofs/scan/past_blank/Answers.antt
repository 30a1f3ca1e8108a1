use mathlib.Core.Bool.{not}
use mathlib.Core.Path.{ap, ◌∙◌}
use native.Mathlib.Omega.{arith}
use Rattle.seeds.proofs.ScanLaws.{skip_words, not_no}
use Rattle.seeds.proofs.scan.past_blank.Goals as goal

pub loop-at-preserved : goal.loop-at-preserved
loop-at-preserved c =
    let i = c in
    (omega (arith, i.loop-at-test.true), skip_words _ _ _ (omega (arith, i.loop-at-test.true)) (c.is_blank.ensures (not_no _ (ap not c.if-not-is_blank.false))) ∙ i.loop-at.invariant.1)
