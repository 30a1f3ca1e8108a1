use native.Mathlib.Omega.{arith}
use Rattle.sheet.specs.Nodes.{level_of}
use Rattle.sheet.proofs.ReadLaws.{level_nat}
use Rattle.sheet.proofs.reads.Sheet.level_at.Goals as goal

-- src/reads.rt:73:5
pub count-requires : goal.count-requires
count-requires c = (omega (arith, c.args.self.opens.long), level_nat _ _ _ c.args.self.opens.table _ c.requires)

-- src/reads.rt:69:1
pub returns : goal.returns
unfolding level_of
returns c = c.count.ensures.value
