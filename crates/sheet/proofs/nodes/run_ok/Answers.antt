use Rattle.words.proofs.Signs.{handed}
use Rattle.sheet.specs.Nodes.{run_ok}
use Rattle.sheet.proofs.nodes.run_ok.Goals as goal

pub returns : goal.returns
unfolding run_ok
returns c =
    cc (
      handed c.word.type_inv c.word.ensures,
      handed c.word-2.type_inv c.word-2.ensures,
      handed c.word-3.type_inv c.word-3.ensures,
    )
