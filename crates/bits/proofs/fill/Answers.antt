use mathlib.Core.Path.{sym, ap, ◌∙◌}
use native.Mathlib.Omega.{arith}
use Rattle.bits.specs.Set.{none}
use Rattle.bits.proofs.FillLaws.{fill_start, fill_step}
use Rattle.bits.proofs.fill.Goals as goal

pub loop-i-init : goal.loop-i-init
loop-i-init c =
    let k = c in
    fill_start _ _ _ (omega (arith, k.requires, k.clear.auto.bits)) (k.clear.ensures ∙ ap none (sym k.clear.auto.bits))

pub loop-i-preserved : goal.loop-i-preserved
loop-i-preserved c = fill_step _ _ _ _ _ c.loop-i-test.true c.loop-i.invariant c.insert.ensures
