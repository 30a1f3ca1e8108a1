use mathlib.Core.Path.{sym, ◌∙◌}
use native.Mathlib.Omega.{arith}
use Rattle.outward.proofs.WaitingLaws.{moved_start, moved_key, moved_step, moved_stop, moved_end}
use Rattle.outward.proofs.waiting.put.Goals as goal

pub loop-k-init : goal.loop-k-init
loop-k-init c = let p = c.requires in moved_start _ _ _ _ _ _ _ _ (omega (arith, p.3, p.4)) c.key-x.ensures.1 p.2

pub comes_before-requires : goal.comes_before-requires
comes_before-requires c =
    let l = c in
    let p = l.requires in
    let a = c.above-i.ensures in
    (p.0, l.key-x.ensures.0, moved_key _ _ _ _ _ l.key-x.ensures.0 _ _ _ _ _ p.3 p.4 l.loop-k.invariant _ a.0 a.1)

pub loop-k-preserved : goal.loop-k-preserved
loop-k-preserved c =
    let l = c in
    let p = l.requires in
    let a = c.above-i.ensures in
    moved_step _ _ _ _ _ l.key-x.ensures.0 _ _ _ _ _ p.3 p.4 l.loop-k.invariant _ a.0 a.1 (sym c.comes_before.ensures ∙ c.if-comes_before.true)

pub returns-in-loop-k : goal.returns-in-loop-k
returns-in-loop-k c =
    let l = c in
    let p = l.requires in
    let a = c.above-i.ensures in
    moved_stop _ _ _ _ _ l.key-x.ensures.0 _ _ _ _ _ p.3 p.4 l.loop-k.invariant _ a.0 a.1 (sym c.comes_before.ensures ∙ c.if-comes_before.false)

pub returns : goal.returns
returns c =
    let l = c in
    let p = l.requires in
    moved_end _ _ _ _ _ l.key-x.ensures.0 _ _ _ _ _ p.3 p.4 l.loop-k.invariant (omega arith)
