use native.Mathlib.Omega.{arith}
use Rattle.sheet.specs.Nodes.{count_of}
use Rattle.sheet.proofs.ReadLaws.{count_nat}
use Rattle.sheet.proofs.reads.Sheet.count_at.Goals as goal

-- src/reads.rt:87:5
pub count-requires : goal.count-requires
count-requires c = (omega (arith, c.args.self.opens.long), count_nat _ _ _ c.args.self.opens.table _ c.requires)

-- src/reads.rt:83:1
pub returns : goal.returns
unfolding count_of
returns c = c.count.ensures.value
