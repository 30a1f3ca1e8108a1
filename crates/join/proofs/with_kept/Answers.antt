use mathlib.Core.Path.{◌∙◌}
use native.Mathlib.Omega.{arith}
use Rattle.bits.proofs.NextLaws.{from_le}
use Rattle.list.specs.Terms.{profile_for}
use Rattle.join.proofs.TurnLaws.{tries_start, tries_on, tries_stop, tries_end}
use Rattle.join.proofs.CallLaws.{show_late, show_early, on_words_lem, words_on}
use Rattle.join.proofs.with_kept.Goals as goal
use Rattle.join.proofs.with_kept.Goals.{then-is_late, else-is_late}

pub loop-i-init : goal.loop-i-init
loop-i-init c = tries_start _ _ _ _ _ _ _ _ _ (words_on (profile_for c.args.ask.terms) _ _ _ _) c.requires.2.enough _ c.next_from-i.ensures

pub returns-then-r : goal.returns-then-r
returns-then-r c = tries_stop _ _ _ _ _ _ _ _ _ _ c.if-r.true c.loop-i.invariant

pub loop-i-smaller : goal.loop-i-smaller
loop-i-smaller c =
    omega (arith, from_le _ _ _ c.next_from-i-in-loop-i.ensures, c.loop-i-test.true)

pub loop-i-preserved : goal.loop-i-preserved
loop-i-preserved c =
    let t = c in
    let l = t in
    let s = l in
    tries_on _ _ _ _ _ _ (on_words_lem (profile_for s.args.ask.terms) _ _ _) _ _ _ _ _ (words_on (profile_for s.args.ask.terms) _ _ _ _) s.requires.2.enough l.loop-i.i t.loop-i-test.true t.if-r.false l.loop-i.invariant _
    (elim c.if-is_late.branch [
      | then-is_late x ↦ show_late (profile_for s.args.ask.terms) _ _ _ _ _ _ _ _ t.is_late.ensures _ _ x.if-is_late.true _ x.pair_by-v.ensures (x.r-is ∙ x.with_found-r.ensures)
      | else-is_late x ↦ show_early (profile_for s.args.ask.terms) _ _ _ _ _ _ _ _ t.is_late.ensures _ _ x.if-is_late.false x.r-is
    ])
    _ c.next_from-i-in-loop-i.ensures

pub returns : goal.returns
returns c = tries_end _ _ _ _ _ _ _ _ _ _ c.loop-i-test.false c.loop-i.invariant
