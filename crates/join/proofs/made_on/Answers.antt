use mathlib.Core.Path.{refl, sym, ap, ◌∙◌}
use lib.ListN.{length}
use Rattle.list.specs.Contractor.{mine}
use Rattle.join.specs.Sheets.{walks_by}
use Rattle.join.specs.Threshold.{walks_for}
use Rattle.join.proofs.ThresholdLaws.{for_cap, first_for}
use Rattle.join.proofs.OnlyLaws.{only_other, only_own, only_cap, first_only}
use Rattle.join.proofs.TurnLaws.{join_rounds_start, rounds_on, rounds_stop, join_rounds_end}
use Rattle.join.proofs.CallLaws.{chamber_same}
use Rattle.join.proofs.KindLaws.{by_capped}
use Rattle.join.proofs.made_on.Goals as goal
use Rattle.join.proofs.made_on.Goals.{then-is_mine, else-is_mine}

pub loop-j-init : goal.loop-j-init
loop-j-init c = (refl, join_rounds_start _ _ _ _ _ _ _ (first_only _ _ _ _ _ (first_for _ _ _ _ _ _ c.first_from-j.ensures)), refl)

pub returns-then-r : goal.returns-then-r
returns-then-r c = rounds_stop _ _ _ _ _ _ _ _ c.if-r.true c.loop-j.invariant.1

pub loop-j-preserved : goal.loop-j-preserved
loop-j-preserved c =
    let l = c in
    let s = l in
    let a = s.args.ask.terms in
    let w = walks_for (walks_by a (length s.args.bits.now) s.args.p.words.now s.args.q.words.now) s.args.p.n a.threshold in
    let m = mine a.contractor s.args.owners.now in
    let long = l.loop-j.invariant.0 in
    let told = c.is_mine.ensures in (
      elim c.if-is_mine.branch [ then-is_mine x ↦ ap length x.bits-is ∙ x.with_chamber-r.auto.bits ∙ long | else-is_mine x ↦ ap length x.bits-is ∙ long ],
      rounds_on _ _ _ _ _ _ _ l.loop-j.j
          (only_cap m w _ _ _ _ _ _ (for_cap _ _ _ _ (by_capped s.args.p.opens s.args.q.opens _ s.requires.2 (length s.args.bits.now) s.requires.1.enough) _ _ _ _ _))
          c.loop-j-test.true c.if-r.false l.loop-j.invariant.1 _
          (elim c.if-is_mine.branch [
            | then-is_mine x ↦ x.r-is ∙ chamber_same a s.args.p.words.now s.args.q.words.now _ _ _ _ _ _ _ _ _ long x.with_chamber-r.ensures ∙ sym (only_own m w _ _ _ _ _ (sym told ∙ x.if-is_mine.true))
            | else-is_mine x ↦ x.r-is ∙ sym (only_other m w _ _ _ _ _ (sym told ∙ x.if-is_mine.false))
          ]),
      elim c.if-is_mine.branch [ then-is_mine x ↦ ap length x.latest-is ∙ x.with_chamber-r.auto.latest ∙ l.loop-j.invariant.2 | else-is_mine x ↦ ap length x.latest-is ∙ l.loop-j.invariant.2 ],
    )

pub returns : goal.returns
returns c = join_rounds_end _ _ _ _ _ _ _ _ c.loop-j-test.false c.loop-j.invariant.1
