use mathlib.Core.Path.{sym, ◌∙◌}
use native.Mathlib.Omega.{arith}
use Rattle.sheet.proofs.ReadLaws.{id_nat}
use Rattle.sheet.proofs.PointsLaws.{id_of}
use Rattle.sheet.proofs.reads.Sheet.id_at.Goals as goal

-- src/reads.rt:38:5
pub count-requires : goal.count-requires
count-requires c = (omega (arith, c.args.self.opens.long), id_nat c.args.self.opens _ c.requires)

-- src/reads.rt:34:1
pub returns : goal.returns
returns c = c.count.ensures.value ∙ sym (id_of _ _ (omega (arith, c.requires, c.args.self.opens.n_is)))
