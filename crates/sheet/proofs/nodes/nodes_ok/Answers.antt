use Rattle.sheet.specs.Nodes.{nodes_ok}
use Rattle.sheet.proofs.nodes.nodes_ok.Goals as goal

-- src/nodes.rt:104:1
pub returns : goal.returns
unfolding nodes_ok
returns c = cc
