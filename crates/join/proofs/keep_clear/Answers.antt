use mathlib.Core.Path.{◌∙◌}
use Prim.Native.Nat.{◌+◌}
use native.Mathlib.Omega.{arith}
use Rattle.bits.proofs.NextLaws.{from_le}
use Rattle.walk.proofs.SiftLaws.{sift_next}
use Rattle.list.specs.Terms.{profile_for}
use Rattle.join.proofs.CountLaws.{Kept-to, keep_start, keep_clear, keep_gone, keep_few, keep_room, kept_clear, join_kept_count, kept_opened}
use Rattle.join.proofs.CallLaws.{walks_room}
use Rattle.join.proofs.keep_clear.Goals as goal
use Rattle.join.proofs.keep_clear.Goals.{then-clear_after, else-clear_after}

pub loop-i-init : goal.loop-i-init
loop-i-init c = keep_start _ _ _ _ _ _ c.next_from-i.ensures

pub overflow_add-opened : goal.overflow_add-opened
overflow_add-opened c =
    let w = c in
    let l = w in
    let s = l in
    omega (arith, keep_room s.args.p.opens s.args.q.opens s.args.terms s.requires.2 _ _ s.requires.1.enough s.requires.3 _ _ _ _ l.loop-i.invariant w.loop-i-test.true _ w.pair_walk_by-a.ensures, walks_room s.args.p.opens s.args.q.opens)

pub overflow_add-count : goal.overflow_add-count
overflow_add-count c =
    let i = c in
    let s = i in
    omega (arith, keep_few _ _ _ _ _ _ _ _ _ i.loop-i.invariant, i.loop-i-test.true, s.args.p.opens.n_le)

pub loop-i-smaller : goal.loop-i-smaller
loop-i-smaller c =
    let i = c in
    omega (arith, from_le _ _ _ c.next_from-i-in-loop-i.ensures, i.loop-i-test.true)

pub loop-i-preserved : goal.loop-i-preserved
loop-i-preserved c =
    let turn : Kept-to (profile_for c.args.terms) c.args.bits.now c.args.p.words.now c.args.q.words.now c.args.j c.if-clear_after.bits c.if-clear_after.count (c.loop-i.opened + c.pair_walk_by-a.result.opened) (c.loop-i.i + 1) = let w = c in
    let i = w in
    let l = i in
    let s = l in
    elim c.if-clear_after.branch [
      | then-clear_after x ↦ keep_clear _ _ _ _ _ _ _ _ _ l.loop-i.invariant (omega (arith, i.loop-i-test.true, s.requires.1.enough)) _ w.pair_walk_by-a.ensures _ c.clear_after.ensures x.if-clear_after.true _ _ x.bits-is x.count-is
      | else-clear_after x ↦ keep_gone _ _ _ _ _ _ _ _ _ l.loop-i.invariant (omega (arith, i.loop-i-test.true, s.requires.1.enough)) _ w.pair_walk_by-a.ensures _ c.clear_after.ensures x.if-clear_after.false _ _ (x.bits-is ∙ x.remove.ensures) x.count-is
    ] in
    sift_next _ _ _ _ _ _ _ _ c.next_from-i-in-loop-i.ensures turn

pub returns : goal.returns
returns c =
    let l = c in
    let s = l in
    let h = c.loop-i-test.false in
    (kept_clear s.args.p.opens s.args.q.opens s.args.terms s.requires.2 _ _ s.requires.1.enough s.requires.3 _ _ _ _ l.loop-i.invariant h, join_kept_count s.args.p.opens s.args.q.opens s.args.terms s.requires.2 _ _ s.requires.1.enough s.requires.3 _ _ _ _ l.loop-i.invariant h, kept_opened s.args.p.opens s.args.q.opens s.args.terms s.requires.2 _ _ s.requires.1.enough s.requires.3 _ _ _ _ l.loop-i.invariant h)
