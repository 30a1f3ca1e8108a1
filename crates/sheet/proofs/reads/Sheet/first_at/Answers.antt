use native.Mathlib.Omega.{arith}
use Rattle.sheet.specs.Nodes.{first_of}
use Rattle.sheet.proofs.ReadLaws.{first_nat}
use Rattle.sheet.proofs.reads.Sheet.first_at.Goals as goal

-- src/reads.rt:80:5
pub count-requires : goal.count-requires
count-requires c = (omega (arith, c.args.self.opens.long), first_nat _ _ _ c.args.self.opens.table _ c.requires)

-- src/reads.rt:76:1
pub returns : goal.returns
unfolding first_of
returns c = c.count.ensures.value
