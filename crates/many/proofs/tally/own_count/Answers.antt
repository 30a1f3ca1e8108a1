-- `many::tally::own_count` meets its contract, number by number. Assumes nothing.
use mathlib.Core.Path.{sym, ◌∙◌}
use Rattle.many.specs.Many.{own_count_answer, own_count_bits}
use Rattle.many.proofs.CheckLaws.{own_number, done_refused, done_given}
use Rattle.many.proofs.tally.own_count.Goals as goal

pub returns-in-Err : goal.returns-in-Err
unfolding own_count_answer own_count_bits
returns-in-Err c =
    let s = c.args in
    let k = c.in-Err.ensures in
    done_refused _ _ _ _ _ _ _ (k.0 ∙ own_number _ s.largest s.grid _) k.1 c.refused.ensures

pub returns : goal.returns
unfolding own_count_answer own_count_bits
returns c =
    let s = c.args in
    let o = c.in-Ok.ensures in
    let v = o.2 in
    let g = rw (o.1.p_is, o.1.q_is) at c.given.ensures in
    done_given _ _ _ _ _ _ (sym (own_number _ s.largest s.grid _) ∙ o.0) _ v.lent v.all g.0 _ g.1
