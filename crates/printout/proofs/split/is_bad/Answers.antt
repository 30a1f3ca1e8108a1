-- `printout::split::is_bad` meets its contract. Assumes nothing.
use mathlib.Core.Path.{refl}
use Rattle.printout.specs.Split.{bad_input}
use Rattle.printout.proofs.split.is_bad.Goals as goal

pub returns : goal.returns
unfolding bad_input
returns c = refl
