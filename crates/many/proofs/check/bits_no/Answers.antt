-- `many::check::bits_no` meets its contract. Assumes nothing.
use mathlib.Core.Path.{sym}
use Rattle.ring.proofs.LentLaws.{bits_short, bits_enough}
use Rattle.many.proofs.check.bits_no.Goals as goal

pub returns-then-len-words : goal.returns-then-len-words
returns-then-len-words c = sym (bits_short _ _ c.if-len-words.true)

pub returns : goal.returns
returns c = sym (bits_enough _ _ c.if-len-words.false)
