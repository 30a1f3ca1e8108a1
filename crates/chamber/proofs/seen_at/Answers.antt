-- `chamber::seen_at` meets its contract. Assumes nothing.
use Rattle.chamber.proofs.KeepLaws.{right_same}
use Rattle.chamber.proofs.seen_at.Goals as goal

pub returns-then-is_of : goal.returns-then-is_of
returns-then-is_of c =
    let p = c.requires in
    (p.3, p.4, right_same _ _ _ _ _ _ _ p.3 _ _ c.is_of.ensures c.if-is_of.true)

pub returns-then-is_of-2 : goal.returns-then-is_of-2
returns-then-is_of-2 c =
    let p = c.requires in
    (p.4, p.3, right_same _ _ _ _ _ _ _ p.4 _ _ c.is_of-2.ensures c.if-is_of-2.true)
