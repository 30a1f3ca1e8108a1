use Rattle.words.proofs.Signs.{handed}
use Rattle.sheet.specs.Nodes.{same_level}
use Rattle.sheet.proofs.nodes.same_level.Goals as goal

pub returns : goal.returns
unfolding same_level
returns c = cc (handed c.word.type_inv c.word.ensures, handed c.word-2.type_inv c.word-2.ensures)
