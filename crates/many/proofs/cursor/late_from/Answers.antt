use mathlib.Core.Path.{sym, ◌∙◌}
use native.Mathlib.Omega.{arith}
use Rattle.bits.proofs.NextLaws.{from_le}
use Rattle.many.proofs.CursorLaws.{kept_at, look_start, look_next}
use Rattle.many.proofs.cursor.late_from.Goals as goal

pub loop-x-init : goal.loop-x-init
loop-x-init c = (look_start _ _ _ _ _ _ _ _ c.next_from-x.ensures, kept_at _ _ _ _ c.requires.0 c.next_from-x.ensures)

pub loop-x-smaller : goal.loop-x-smaller
loop-x-smaller c = omega (arith, from_le _ _ _ c.next_from-x-in-loop-x.ensures, c.loop-x-test.true)

pub loop-x-preserved : goal.loop-x-preserved
loop-x-preserved c = (look_next _ _ _ _ _ _ _ _ _ (sym c.is_late.ensures ∙ c.if-is_late.false) c.next_from-x-in-loop-x.ensures c.loop-x.invariant.0, kept_at _ _ _ _ c.requires.0 c.next_from-x-in-loop-x.ensures)
