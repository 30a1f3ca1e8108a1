use mathlib.Core.Path.{refl, ap, ◌∙◌}
use mathlib.Core.List.{List, map}
use Rattle.sheet.specs.Places.{points_of}
use Rattle.list.specs.declared.Pair.{Pair}
use Rattle.walk.proofs.FilterCode.{still_holds}
use Rattle.sorting.specs.Ranking.{first_by}
use Rattle.ranked.specs.Urgent.{ahead, visit_of}
use Rattle.ranked.specs.Visits.{tops_of}
use Rattle.ranked.proofs.VisitsLaws.{visit_start, visit_past, visit_turn, visit_done, visits_list, visits_ascend, visits_rise}
use Rattle.ranked.proofs.visits.of_all.Goals as goal

pub loop-j-init : goal.loop-j-init
loop-j-init c =
    (visit_start _ _ _ _ _ _ _ _ _ (visits_ascend c.args.largest c.args.terms _ _ _ _ _ _ _ c.args.p.opens c.args.q.opens) _ c.new-g.ensures, refl)

pub of_next-g-requires : goal.of_next-g-requires
of_next-g-requires c =
    let l = c.loop-j in
    let t = c.loop-j-test.true in
    (c.requires.0, t, still_holds _ _ _ l.invariant.1 c.requires.1, c.requires.2, c.requires.3, c.greatest-top.ensures, c.requires.4, c.requires.5, l.invariant.0.held, visit_past _ _ _ _ _ _ _ _ _ l.g l.j l.invariant.0 t (visits_rise c.args.largest c.args.terms c.args.owners.now _ _ _ _ _ _ c.args.p.opens c.args.q.opens))

pub loop-j-preserved : goal.loop-j-preserved
loop-j-preserved c =
    let l = c.loop-j in
    let o = c.of_next-g in
    (visit_turn _ _ _ _ _ _ _ _ _ l.g l.j l.invariant.0 c.loop-j-test.true _ o.ensures, o.auto.bits ∙ l.invariant.1)

pub returns : goal.returns
returns c =
    visit_done _ _ _ _ _ _ _ _ _ _ _ c.loop-j.invariant.0 c.loop-j-test.false
    ∙ ap (λ (l : List Pair). tops_of (first_by ahead c.args.k (map (visit_of (points_of c.args.p.words.now) (points_of c.args.q.words.now) c.args.p_scores.now c.args.q_scores.now) l))) (visits_list c.args.largest c.args.terms _ _ _ _ _ _ _ c.args.p.opens c.args.q.opens)
