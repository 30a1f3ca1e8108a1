use borrow.Author.Rules.{rules}
use mathlib.Core.Path.{refl}
use native.Mathlib.Omega.{arith}
use Rattle.bits.proofs.NextLaws.{from_le, from_kept}
use Rattle.chamber.proofs.ListedLaws.{points_many}
use Rattle.printout.proofs.LineLaws.{put_start, put_next, put_room, put_turn, put_end}
use Rattle.printout.proofs.lines.put_chamber.Goals as goal

pub loop-i-init : goal.loop-i-init
loop-i-init c =
    let s = c in
    (refl, put_start _ _ _ _ _ _ _ s.requires.pairs_on _ _ c.next_from-i.ensures, λ h. from_kept _ _ _ c.next_from-i.ensures (omega (arith, h, s.requires.opens.1.enough)))

pub put_pair-to-requires : goal.put_pair-to-requires
put_pair-to-requires c =
    let l = c in
    let s = l in
    let t = c.loop-i-test.true in
    (s.requires.opens.0, t, omega (arith, l.loop-i.invariant.0, s.requires.count_in_bounds, put_room _ _ _ _ _ _ _ s.requires.pairs_on _ _ _ _ l.loop-i.invariant.1 t (l.loop-i.invariant.2 t)))

pub loop-i-smaller : goal.loop-i-smaller
loop-i-smaller c = omega (arith, from_le _ _ _ c.next_from-i-in-loop-i.ensures, c.loop-i-test.true)

pub loop-i-preserved : goal.loop-i-preserved
loop-i-preserved c =
    let r = c in
    let t = r.loop-i-test.true in
    let l = r in
    let s = l in (
      search rules,
      put_next _ _ _ _ _ _ _ s.requires.pairs_on _ _ _ _ _ c.next_from-i-in-loop-i.ensures
          (put_turn _ _ _ _ _ _ _ s.requires.pairs_on _ _ _ _ l.loop-i.invariant.1 t (l.loop-i.invariant.2 t) _ _ r.put_pair-to.ensures.grown r.put_pair-to.ensures.upper_bound),
      λ h. from_kept _ _ _ c.next_from-i-in-loop-i.ensures (omega (arith, h, s.requires.opens.1.enough)),
    )

pub returns-clause-grown : goal.returns-clause-grown
returns-clause-grown c =
    let l = c in
    let s = l in
    (put_end _ _ _ _ _ _ _ _ _ _ (points_many _ _ _ s.args.p.opens) c.loop-i-test.false l.loop-i.invariant.1).0
