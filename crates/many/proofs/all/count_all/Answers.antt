use mathlib.Core.Path.{ap, ◌∙◌}
use native.Mathlib.Omega.{arith}
use lib.ListN.{length}
use Rattle.chamber.proofs.ListedLaws.{count_room, count_more, count_by, chamber_count_end, count_fits, list_of_sheets}
use Rattle.many.proofs.all.count_all.Goals as goal

pub overflow_add-total : goal.overflow_add-total
overflow_add-total c =
    let l = c in
    let p = c.requires in
    let r = count_room _ _ _ _ _ _ l.loop-j.invariant.0 c.loop-j-test.true _ _ c.listed_of-found.ensures in
    omega (arith, count_fits _ l.loop-j.total _ _ c.wider-total.ensures r c.args.p.opens.n_le c.args.q.opens.n_le)

pub loop-j-preserved : goal.loop-j-preserved
loop-j-preserved c =
    let l = c in
    (count_by _ _ _ _ _ _ _ _ c.wider-total.ensures (count_more _ _ _ _ _ _ l.loop-j.invariant.0 c.loop-j-test.true _ _ c.listed_of-found.ensures), c.listed_of-found.auto.bits ∙ l.loop-j.invariant.1)

pub returns : goal.returns
returns c =
    let s = c in
    chamber_count_end _ _ _ _ _ _ c.loop-j.invariant.0 c.loop-j-test.false ∙ ap length (list_of_sheets s.args.largest s.args.terms _ _ _ _ _ _ _ s.args.p.opens s.args.q.opens)
