-- `ranked::visits::of_pair` meets its contract. Assumes nothing.
use mathlib.Core.Bool.{not}
use mathlib.Core.Path.{ap}
use Rattle.sheet.specs.Places.{points_of}
use Rattle.list.specs.RingList.{pair_by}
use Rattle.list.specs.Terms.{profile_for}
use Rattle.chamber.specs.Sized.{small_for}
use Rattle.ranked.specs.Visits.{scored}
use Rattle.ranked.proofs.VisitsLaws.{pair_too_big, pair_behind, pair_blocked, pair_taken}
use Rattle.ranked.proofs.visits.of_pair.Goals as goal

pub returns-then-largest-pair : goal.returns-then-largest-pair
returns-then-largest-pair c =
    pair_too_big c.args.largest c.args.terms _ _ _ _ _ _ c.args.p.opens c.args.q.opens c.requires.0 _ _ c.requires.1 c.requires.2 _ _ c.requires.5 c.args.score _ c.pair_by-pair.ensures c.if-largest-pair.true

pub returns-then-not-enters : goal.returns-then-not-enters
returns-then-not-enters c =
    pair_behind (small_for c.args.largest c.args.terms (points_of c.args.p.words.now) (points_of c.args.q.words.now)) (pair_by (profile_for c.args.terms) (points_of c.args.p.words.now) (points_of c.args.q.words.now)) _ _ _ _ _ c.requires.5 c.requires.3 c.requires.4 _ (ap (scored c.args.score) c.pair_by-pair.ensures) _ c.enters.ensures (ap not c.if-not-enters.true)

pub returns-then-not-clear_after : goal.returns-then-not-clear_after
returns-then-not-clear_after c =
    pair_blocked c.args.largest c.args.terms _ _ _ _ _ _ c.args.p.opens c.args.q.opens c.requires.0 _ _ c.requires.1 c.requires.2 _ _ c.requires.5 c.args.score _ c.pair_by-pair.ensures _ c.pair_walk_by-x.ensures _ c.clear_after.ensures (ap not c.if-not-clear_after.true)

pub returns : goal.returns
returns c =
    pair_taken c.args.largest c.args.terms _ _ _ _ _ _ c.args.p.opens c.args.q.opens c.requires.0 _ _ c.requires.1 c.requires.2 _ _ c.requires.5 c.args.score _ c.pair_by-pair.ensures _ c.pair_walk_by-x.ensures _ c.clear_after.ensures (ap not c.if-not-clear_after.false) c.if-largest-pair.false _ c.offered.ensures
