-- `ranked::visits::urgent` meets its contract, number by number. Assumes nothing.
use mathlib.Core.Path.{refl, sym, ◌∙◌}
use Rattle.bits.proofs.LentLaws.{part_long}
use Rattle.many.proofs.CheckLaws.{done_refused, done_given}
use Rattle.ranked.specs.Busiest.{asked_list}
use Rattle.ranked.specs.Urgent.{urgent_of, urgent_answer, urgent_bits}
use Rattle.ranked.proofs.AskedLaws.{words_need}
use Rattle.ranked.proofs.ScoresLaws.{last_served, urgent_stops, urgent_last}
use Rattle.ranked.proofs.visits.urgent.Goals as goal

pub returns-in-Err : goal.returns-in-Err
unfolding urgent_answer urgent_bits
returns-in-Err c =
    let k = c.in-Err.ensures in
    done_refused _ _ _ _ _ _ _ (urgent_stops _ _ _ c.args.p_scores.now c.args.q_scores.now c.args.asked _ _ k.0 k.1) k.1 c.refused.ensures

pub returns-then-no-ne0 : goal.returns-then-no-ne0
unfolding urgent_answer urgent_bits
returns-then-no-ne0 c =
    let k = c.in-Ok.ensures in
    let v = k.2 in
    let w = words_need _ _ _ v.p_opens _ c.words_for-w.ensures in
    done_refused _ _ _ _ _ _ _ (urgent_last _ _ _ c.args.p_scores.now c.args.q_scores.now c.args.asked _ _ (sym k.0) refl _ _ _ _ v.p_opens v.q_opens _ w _ c.last_no-no.ensures) c.if-no-ne0.true c.refused-then-no-ne0.ensures

pub slice_bounds-given-end : goal.slice_bounds-given-end
slice_bounds-given-end c = (last_served _ _ _ _ _ _ _ c.last_no-no.ensures c.if-no-ne0.false).2

pub slice_bounds-given-end-2 : goal.slice_bounds-given-end-2
slice_bounds-given-end-2 c = sym (part_long _ _ (last_served _ _ _ _ _ _ _ c.last_no-no.ensures c.if-no-ne0.false).2)

pub given-requires : goal.given-requires
given-requires c =
    let v = c.in-Ok.ensures.2 in
    let z = last_served _ _ _ _ _ _ _ c.last_no-no.ensures c.if-no-ne0.false in
    (record { two = refl; all = refl }, part_long _ _ z.2 ∙ c.words_for-w.ensures, z.0, z.1, v.some, v.most)

pub returns : goal.returns
unfolding urgent_answer urgent_bits urgent_of asked_list
returns c =
    let k = c.in-Ok.ensures in
    let v = k.2 in
    let w = words_need _ _ _ v.p_opens _ c.words_for-w.ensures in
    let g = rw (k.1.p_is, k.1.q_is) at c.given.ensures in
    let n = c.last_no-no in
    let y = c.if-no-ne0.false in
    let fits = (last_served _ _ _ _ _ _ _ n.ensures y).2 in
    done_given _ _ _ _ _ _ (sym (urgent_last _ _ _ c.args.p_scores.now c.args.q_scores.now c.args.asked _ _ (sym k.0) refl _ _ _ _ v.p_opens v.q_opens _ w _ n.ensures) ∙ y) _ fits w g.0 _ g.1
