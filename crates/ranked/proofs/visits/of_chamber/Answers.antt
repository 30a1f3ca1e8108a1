use mathlib.Core.Path.{refl}
use native.Mathlib.Omega.{arith}
use Rattle.sheet.specs.Places.{points_of}
use Rattle.bits.proofs.NextLaws.{from_le}
use Rattle.list.specs.RingList.{pair_by}
use Rattle.list.specs.Terms.{profile_for}
use Rattle.ranked.proofs.VisitsLaws.{pick_start, pick_next, pick_turn, pick_end, pick_sure, pick_score}
use Rattle.ranked.proofs.visits.of_chamber.Goals as goal

pub loop-i-init : goal.loop-i-init
loop-i-init c =
    pick_start _ _ _ _ _ _ _ _ (pick_sure c.args.largest c.args.terms _ _ _ _ c.args.p.opens _ _ c.candidates.ensures) c.requires.7 _ c.next_from-i.ensures

pub loop-i-smaller : goal.loop-i-smaller
loop-i-smaller c = omega (arith, from_le _ _ _ c.next_from-i-in-loop-i.ensures, c.loop-i-test.true)

pub loop-i-preserved : goal.loop-i-preserved
loop-i-preserved c =
    let l = c.loop-i in
    let t = c.loop-i-test.true in
    let sure = pick_sure c.args.largest c.args.terms _ _ _ _ c.args.p.opens _ _ c.candidates.ensures in
    let score = pick_score _ _ _ c.args.p.opens _ c.requires.3 c.args.own (pair_by (profile_for c.args.terms) (points_of c.args.p.words.now) (points_of c.args.q.words.now)) c.args.j l.i t refl _ _ c.from.ensures refl in
    pick_next _ _ _ _ _ _ _ _ sure _ _ _ c.next_from-i-in-loop-i.ensures (pick_turn _ _ _ _ _ _ _ l.r l.i l.invariant t _ score _ c.of_pair.ensures)

pub returns : goal.returns
returns c = pick_end _ _ _ _ _ _ _ _ _ c.loop-i.invariant c.loop-i-test.false
