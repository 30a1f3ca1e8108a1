use native.Mathlib.Omega.{arith}
use Rattle.bits.proofs.NextLaws.{from_le}
use Rattle.ranked.proofs.RanksLaws.{met_start, met_turn, met_done}
use Rattle.ranked.proofs.busiest.has_at_most.Goals as goal

pub loop-i-init : goal.loop-i-init
loop-i-init c = met_start _ _ _ c.next_from-i.ensures

pub loop-i-smaller : goal.loop-i-smaller
loop-i-smaller c = omega (arith, from_le _ _ _ c.next_from-i-in-loop-i.ensures, c.loop-i-test.true)

pub loop-i-preserved : goal.loop-i-preserved
loop-i-preserved c = met_turn _ _ _ _ _ c.loop-i.invariant c.if-left-eq0.false c.loop-i-test.true c.next_from-i-in-loop-i.ensures

pub returns : goal.returns
returns c = λ e. met_done _ _ _ _ c.loop-i.invariant c.loop-i-test.false
