use mathlib.Core.Path.{sym, ◌∙◌}
use Prim.Native.Nat.{◌+◌}
use native.Mathlib.Omega.{arith}
use Rattle.sheet.specs.Places.{points_of}
use Rattle.sheet.proofs.PointsLaws.{spot_of_lem}
use Rattle.bits.proofs.NextLaws.{from_le}
use Rattle.walk.proofs.NodeLaws.{spot_fits}
use Rattle.list.specs.RingList.{pair_by}
use Rattle.list.specs.Terms.{profile_for}
use Rattle.chamber.specs.Sized.{small_for}
use Rattle.chamber.proofs.KeepLaws.{Keeping, chamber_keep_start, keep_next, keep_yes, keep_no, chamber_keep_few, keep_end, small_covered, right_start}
use Rattle.chamber.proofs.keep_pairs.Goals as goal
use Rattle.chamber.proofs.keep_pairs.Goals.{then-r, else-r}

pub loop-i-init : goal.loop-i-init
loop-i-init c =
    let z = c in
    let s = c in
    let p = s.requires in
    (chamber_keep_start _ _ _ _ _ _ (λ y l e. small_covered s.args.largest s.args.terms _ _ _ _ p.3 y (omega (arith, s.args.p.opens.n_is)) e) c.next_from-i.ensures, right_start _ _ _ _ _ (spot_fits _ _ _ s.args.q.opens _ _ p.1 z.spot_at-a.ensures), right_start _ _ _ _ _ (spot_fits _ _ _ s.args.q.opens _ _ p.1 z.spot_at-a.ensures))

pub judge-r-requires : goal.judge-r-requires
judge-r-requires c =
    let l = c in
    let s = c in
    let p = s.requires in
    (p.0, p.1, c.loop-i-test.true, c.spot_at-a.ensures ∙ sym (spot_of_lem _ _ (omega (arith, p.1, s.args.q.opens.n_is))), l.loop-i.invariant.1, l.loop-i.invariant.2)

pub overflow_add-count : goal.overflow_add-count
overflow_add-count c =
    let i = c in
    omega (arith, chamber_keep_few _ _ _ _ _ _ _ _ i.loop-i.invariant.0, c.args.p.opens.n_le)

pub loop-i-smaller : goal.loop-i-smaller
loop-i-smaller c = omega (arith, from_le _ _ _ c.next_from-i-in-loop-i.ensures, c.loop-i-test.true)

pub loop-i-preserved : goal.loop-i-preserved
loop-i-preserved c =
    let turn : Keeping (small_for c.args.largest c.args.terms (points_of c.args.p.words.now) (points_of c.args.q.words.now)) (pair_by (profile_for c.args.terms) (points_of c.args.p.words.now) (points_of c.args.q.words.now)) c.args.j c.args.p.n c.args.bits.now c.if-r.bits c.if-r.count (c.loop-i.i + 1) = let i = c in
    let l = i in
    let v = l.loop-i.invariant.0 in
    let p = l.requires in
    let e = c.judge-r.ensures.0 in
    elim c.if-r.branch [
      | then-r x ↦ keep_yes _ _ _ _ _ _ _ _ v i.loop-i-test.true _ _ (sym e ∙ x.if-r.true) x.bits-is x.count-is
      | else-r x ↦ keep_no _ _ _ _ _ _ _ _ v i.loop-i-test.true (omega (arith, i.loop-i-test.true, p.2.enough, v.long)) _ _ (sym e ∙ x.if-r.false) (x.bits-is ∙ x.remove.ensures) x.count-is
    ] in
    (keep_next _ _ _ _ _ _ _ _ _ c.next_from-i-in-loop-i.ensures turn, c.judge-r.ensures.1, c.judge-r.ensures.2)

pub returns : goal.returns
returns c = keep_end _ _ _ _ _ _ _ _ c.loop-i-test.false c.loop-i.invariant.0
