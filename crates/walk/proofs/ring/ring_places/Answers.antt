use mathlib.Core.Path.{sym, ◌∙◌}
use Prim.Native.Nat.{◌+◌}
use native.Mathlib.Omega.{arith}
use Rattle.walk.proofs.NodeLaws.{position_fits}
use Rattle.walk.proofs.TurnLaws.{turn_end}
use Rattle.walk.proofs.RingCode.{leaf_passes, leaf_hit}
use Rattle.walk.proofs.ring.ring_places.Goals as goal

pub hits-requires : goal.hits-requires
hits-requires c =
    let s = c in
    let p = s.requires in
    (p.0, p.1, position_fits _ _ _ s.args.w.opens (s.args.first + c.loop-i.i) _ (omega (arith, p.2, c.loop-i-test.true)) c.order_at-k.ensures)

pub returns-then-hits : goal.returns-then-hits
returns-then-hits c = let l = c in leaf_hit _ _ _ _ _ _ _ _ _ l.loop-i.i _ c.loop-i-test.true c.order_at-k.ensures (sym c.hits.ensures ∙ c.if-hits.true) l.loop-i.invariant

pub loop-i-preserved : goal.loop-i-preserved
loop-i-preserved c = let l = c in leaf_passes _ _ _ _ _ _ _ _ _ l.loop-i.i _ c.loop-i-test.true c.order_at-k.ensures (sym c.hits.ensures ∙ c.if-hits.false) l.loop-i.invariant

pub returns : goal.returns
returns c = turn_end _ _ _ _ _ c.loop-i.i c.loop-i-test.false c.loop-i.invariant
