-- `outward::waiting::comes_before` meets its contract. Assumes nothing.
use Rattle.outward.proofs.WaitingLaws.{before_high, before_low}
use Rattle.outward.proofs.waiting.comes_before.Goals as goal

pub returns-then-d-g : goal.returns-then-d-g
returns-then-d-g c = let p = c.requires in before_high _ _ _ _ _ _ p.1 p.2 c.if-d-g.true

pub returns-then-g-d : goal.returns-then-g-d
returns-then-g-d c = let p = c.requires in before_low _ _ _ _ _ _ p.1 p.2 c.if-g-d.true
