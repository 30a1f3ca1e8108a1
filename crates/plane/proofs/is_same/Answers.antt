-- `plane::is_same` meets its contract. Assumes nothing.
use Rattle.std.proofs.Common.{◌∙◌}
use Rattle.plane.proofs.TestLaws.{same_by}
use Rattle.plane.proofs.is_same.Goals as goal

pub returns : goal.returns
returns c = c.eq.ensures ∙ same_by c.args.a c.args.b
