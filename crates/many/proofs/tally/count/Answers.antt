-- `many::tally::count` meets its contract, number by number. Assumes nothing.
use mathlib.Core.Path.{sym, ◌∙◌}
use Rattle.many.specs.Many.{count_answer, count_bits}
use Rattle.many.proofs.CheckLaws.{count_number, done_refused, done_given}
use Rattle.many.proofs.tally.count.Goals as goal

pub returns-in-Err : goal.returns-in-Err
unfolding count_answer count_bits
returns-in-Err c =
    let k = c.in-Err.ensures in
    done_refused _ _ _ _ _ _ _ (k.0 ∙ count_number _ _ _ c.args.which _) k.1 c.refused.ensures

pub returns : goal.returns
unfolding count_answer count_bits
returns c =
    let o = c.in-Ok.ensures in
    let v = o.2 in
    let g = rw (o.1.p_is, o.1.q_is) at c.given.ensures in
    done_given _ _ _ _ _ _ (sym (count_number _ _ _ c.args.which _) ∙ o.0) _ v.lent v.all g.0 _ g.1
