use native.Mathlib.Omega.{arith}
use Rattle.bits.proofs.NextLaws.{from_le}
use Rattle.seeds.proofs.walks.retry_all.Goals as goal

pub loop-i-smaller : goal.loop-i-smaller
loop-i-smaller c = omega (arith, from_le _ _ _ c.next_from-i-in-loop-i.ensures, c.loop-i-test.true)
