use mathlib.Core.Path.{◌∙◌}
use native.Mathlib.Omega.{arith}
use lib.ListN.{length}
use Rattle.bits.proofs.NextLaws.{from_le}
use Rattle.join.proofs.TurnLaws.{tries_start, tries_room, tries_on, tries_stop, tries_end, tried_few}
use Rattle.join.proofs.CallLaws.{with_yes, with_no}
use Rattle.join.proofs.KindLaws.{by_capped}
use Rattle.join.proofs.with_partners.Goals as goal
use Rattle.join.proofs.with_partners.Goals.{then-t, else-t}

pub loop-i-init : goal.loop-i-init
loop-i-init c =
    let s = c in
    tries_start _ _ _ _ _ _ _ _ _ s.requires.5 s.requires.2.enough _ c.next_from-i.ensures

pub returns-then-r : goal.returns-then-r
returns-then-r c = tries_stop _ _ _ _ _ _ _ _ _ _ c.if-r.true c.loop-i.invariant

pub overflow_add-r : goal.overflow_add-r
overflow_add-r c =
    let t = c in
    let l = t in
    let s = l in
    let few = tries_room _ _ _ _ _ _ _ _ _ l.loop-i.i t.loop-i-test.true l.loop-i.invariant in
    let words = length s.args.bits.now in
    let cap = tried_few _ _ s.args.ask.size _ _ (by_capped s.args.p.opens s.args.q.opens _ s.requires.4 words s.requires.2.enough) _ _ _ (t.try_partner-t.ensures words) in
    omega (arith, s.requires.3)

pub loop-i-smaller : goal.loop-i-smaller
loop-i-smaller c =
    let k = c in
    omega (arith, from_le _ _ _ c.next_from-i-in-loop-i.ensures, k.loop-i-test.true)

pub loop-i-preserved : goal.loop-i-preserved
loop-i-preserved c =
    let k = c in
    let t = k in
    let l = t in
    let s = l in
    let words = length s.args.bits.now in
    tries_on _ _ _ _ _ _ (by_capped s.args.p.opens s.args.q.opens _ s.requires.4 words s.requires.2.enough) _ _ _ _ _ s.requires.5 s.requires.2.enough l.loop-i.i t.loop-i-test.true t.if-r.false l.loop-i.invariant _
    (elim c.if-t.branch [
      | then-t x ↦ with_yes _ _ _ _ _ _ _ x.pair_by-v.ensures (t.try_partner-t.ensures words) x.if-t.true (x.r-is ∙ x.with_found-r.ensures)
      | else-t x ↦ x.r-is ∙ with_no _ _ _ _ _ (t.try_partner-t.ensures words) x.if-t.false
    ])
    _ c.next_from-i-in-loop-i.ensures

pub returns : goal.returns
returns c = tries_end _ _ _ _ _ _ _ _ _ _ c.loop-i-test.false c.loop-i.invariant
