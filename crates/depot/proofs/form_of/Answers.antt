use Rattle.depot.specs.Forms.{form_of}
use Rattle.depot.proofs.form_of.Goals as goal

pub returns : goal.returns
unfolding form_of
returns c = cc
