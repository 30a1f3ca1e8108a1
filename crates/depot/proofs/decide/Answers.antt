use Rattle.depot.proofs.FormLaws.{made_11, made_16, made_all}
use Rattle.depot.proofs.decide.Goals as goal

pub returns-then-len-b : goal.returns-then-len-b
returns-then-len-b c = made_11 _ _ _ c.if-len-b.true

pub returns-then-room-b : goal.returns-then-room-b
returns-then-room-b c = made_16 _ _ _ c.if-len-b.false c.if-room-b.true

pub returns : goal.returns
returns c = made_all _ _ _ c.if-len-b.false c.if-room-b.false
