use Rattle.depot.specs.Depot.{form_ok}
use Rattle.depot.proofs.is_form.Goals as goal

pub returns : goal.returns
unfolding form_ok
returns c = cc
