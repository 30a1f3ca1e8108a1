use Rattle.std.proofs.Common.{arith, ap, ◌∙◌, to_z}
use Rattle.std.specs.Int.{w32}
use Rattle.words.specs.Bytes.{word, spell}
use Rattle.words.proofs.Signs.{handed}
use Rattle.words.proofs.bytes.word_le.Goals as goal

pub returns : goal.returns
unfolding word spell
returns c = handed c.from_le_bytes.type_inv (c.from_le_bytes.ensures ∙ ap (to_z w32) (omega arith))
