use native.Mathlib.Omega.{arith}
use Rattle.sheet.specs.Order.{order_of}
use Rattle.sheet.proofs.OrderLaws.{order_below}
use Rattle.sheet.proofs.ReadLaws.{order_nat}
use Rattle.sheet.proofs.boxes.spot_of.Goals as goal

pub count-requires : goal.count-requires
count-requires c = (omega arith, order_nat _ _ c.requires.2 _ c.requires.3)

pub returns-clause-value : goal.returns-clause-value
unfolding order_of
returns-clause-value c = omega (arith, c.count.ensures.value)

pub returns-clause-result_bound : goal.returns-clause-result_bound
unfolding order_of
returns-clause-result_bound c = omega (arith, c.count.ensures.value, order_below _ _ c.requires.2 _ c.requires.3)
