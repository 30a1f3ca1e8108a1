use Rattle.book.proofs.CoreLaws.{bad_many, bad_is}
use Rattle.book.proofs.is_bad.Goals as goal

pub returns-then-n-gt16 : goal.returns-then-n-gt16
returns-then-n-gt16 c = bad_many _ c.if-n-gt16.true

pub returns : goal.returns
returns c =
    let r = c in
    bad_is _ _ r.if-n-gt16.false r.pairs_rise.ensures
