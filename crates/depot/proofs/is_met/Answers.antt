use Rattle.depot.specs.Depot.{same_form}
use Rattle.depot.proofs.KeyLaws.{beq_alike}
use Rattle.depot.proofs.is_met.Goals as goal

pub returns : goal.returns
unfolding same_form
returns c = rw (beq_alike c.args.f.own c.args.form.own, beq_alike c.args.f.grid c.args.form.grid)
