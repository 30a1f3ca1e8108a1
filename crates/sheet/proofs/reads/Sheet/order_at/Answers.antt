use native.Mathlib.Omega.{arith}
use Rattle.sheet.specs.Order.{order_of}
use Rattle.sheet.proofs.ReadLaws.{order_nat}
use Rattle.sheet.proofs.reads.Sheet.order_at.Goals as goal

-- src/reads.rt:57:5
pub count-requires : goal.count-requires
count-requires c = (omega (arith, c.args.self.opens.long), order_nat _ _ c.args.self.opens.ordered _ c.requires)

-- src/reads.rt:53:1
pub returns : goal.returns
unfolding order_of
returns c = c.count.ensures.value
