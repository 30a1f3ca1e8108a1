use Rattle.sheet.specs.Nodes.{first_of, count_of}
use Rattle.sheet.proofs.nodes.run_end.Goals as goal

pub returns : goal.returns
unfolding first_of count_of
returns c = cc
