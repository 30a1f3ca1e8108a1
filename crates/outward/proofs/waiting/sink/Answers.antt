use mathlib.Core.Path.{sym, ◌∙◌}
use Rattle.outward.proofs.WaitingLaws.{sunk_start, sunk_step, sunk_stop, sunk_end}
use Rattle.outward.proofs.waiting.sink.Goals as goal

pub loop-k-init : goal.loop-k-init
loop-k-init c = sunk_start _ _ _ _ _ _ _ c.requires.2

pub returns-then-comes_before : goal.returns-then-comes_before
returns-then-comes_before c =
    let l = c in
    let p = l.requires in
    sunk_stop _ _ _ _ _ p.1 _ _ _ _ p.3 p.4 l.loop-k.invariant _ c.lesser-j.ensures (sym c.comes_before.ensures ∙ c.if-comes_before.true)

pub loop-k-preserved : goal.loop-k-preserved
loop-k-preserved c =
    let l = c in
    let p = l.requires in
    sunk_step _ _ _ _ _ p.1 _ _ _ _ p.3 p.4 l.loop-k.invariant _ c.lesser-j.ensures (sym c.comes_before.ensures ∙ c.if-comes_before.false)

pub returns : goal.returns
returns c =
    let l = c in
    let p = l.requires in
    sunk_end _ _ _ _ _ p.1 _ _ _ _ p.3 p.4 l.loop-k.invariant c.loop-k-test.false
