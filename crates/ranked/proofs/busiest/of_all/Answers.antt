use mathlib.Core.Path.{refl, ◌∙◌}
use Rattle.walk.proofs.FilterCode.{still_holds}
use Rattle.ranked.proofs.RanksLaws.{rank_start, ranks_below, rank_turn, rank_done, rank_rises}
use Rattle.ranked.proofs.busiest.of_all.Goals as goal

pub loop-j-init : goal.loop-j-init
loop-j-init c =
    (rank_start _ _ _ _ (rank_rises c.args.largest c.args.terms c.args.p.words.now _ _ _ c.args.q.opens) _ c.new-g.ensures, refl)

pub of_chamber-g-requires : goal.of_chamber-g-requires
of_chamber-g-requires c =
    let l = c.loop-j in
    (c.requires.0, c.loop-j-test.true, still_holds _ _ _ l.invariant.1 c.requires.1, c.requires.2, c.requires.3, l.invariant.0.held, ranks_below _ _ _ _ (rank_rises c.args.largest c.args.terms c.args.p.words.now _ _ _ c.args.q.opens) l.g l.j l.invariant.0 c.loop-j-test.true)

pub loop-j-preserved : goal.loop-j-preserved
loop-j-preserved c =
    let l = c.loop-j in
    let o = c.of_chamber-g in
    (rank_turn _ _ _ _ (rank_rises c.args.largest c.args.terms c.args.p.words.now _ _ _ c.args.q.opens) l.g l.j l.invariant.0 c.loop-j-test.true _ o.ensures, o.auto.bits ∙ l.invariant.1)

pub returns : goal.returns
returns c = rank_done _ _ _ _ _ _ c.loop-j.invariant.0 c.loop-j-test.false
