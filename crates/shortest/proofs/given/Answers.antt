use mathlib.Core.Path.{refl, ap, ◌∙◌}
use Rattle.bits.specs.Set.{none}
use Rattle.shortest.specs.Answer.{short_given}
use Rattle.shortest.proofs.SearchLaws.{shortest_going_start, going_on, all_gathered, whole_list, whole_apart}
use Rattle.shortest.proofs.given.Goals as goal

pub loop-j-init : goal.loop-j-init
loop-j-init c = (refl, shortest_going_start _ _ _ _ _ (whole_apart _ _ _ _ _ _ c.args.p.opens c.args.q.opens) _ c.new-g.ensures)

pub loop-j-preserved : goal.loop-j-preserved
loop-j-preserved c =
    let w = c.with_chamber-g in
    (w.auto.bits ∙ c.loop-j.invariant.0, going_on _ _ _ _ _ _ _ c.loop-j.invariant.1 c.loop-j-test.true _ w.ensures)

pub returns : goal.returns
unfolding short_given
returns c =
    let z = all_gathered _ _ _ _ _ _ (whole_list _ _ _ _ _ _ c.args.p.opens c.args.q.opens) _ _ c.loop-j.invariant.1 c.loop-j-test.false in
    (λ i. record { number = 0; count = z.0 i; pairs = z.1 i }, c.clear.ensures ∙ ap none c.loop-j.invariant.0)
