use mathlib.Core.Path.{refl, ◌∙◌}
use native.Mathlib.Omega.{arith}
use lib.ListN.{length-set}
use Rattle.outward.proofs.WaitingLaws.{wiped_start, wiped_step}
use Rattle.outward.proofs.waiting.wipe.Goals as goal

pub loop-i-init : goal.loop-i-init
loop-i-init c = (wiped_start _, refl)

pub loop-i-preserved : goal.loop-i-preserved
loop-i-preserved c =
    let v = c.loop-i.invariant in
    (wiped_step _ _ _ (omega (arith, c.requires)) v.0, length-set c.loop-i.waiting c.loop-i.i 0 ∙ v.1)
