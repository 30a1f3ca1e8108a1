-- `ring::open::head_of` meets its contract. Assumes nothing.
use mathlib.Core.Path.{sym}
use Rattle.ring.proofs.HeadLaws.{head_opened, head_shut}
use Rattle.ring.proofs.open.head_of.Goals as goal

pub returns-in-Ok : goal.returns-in-Ok
returns-in-Ok c = let s = c.in-Ok.ensures in head_opened _ _ _ _ s.0 s.1 c.in-Ok.s.opens

pub returns-in-Err : goal.returns-in-Err
returns-in-Err c = let k = c.in-Err.ensures in head_shut _ _ (sym k.0) k.1
