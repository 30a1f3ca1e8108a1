use Rattle.sheet.specs.Nodes.{is_last}
use Rattle.sheet.proofs.nodes.is_last.Goals as goal

-- src/nodes.rt:56:1
pub returns : goal.returns
unfolding is_last
returns c = cc
