use mathlib.Core.Path.{◌∙◌}
use native.Mathlib.Omega.{arith}
use native.Mathlib.Nat.{pos_of_ne-zero}
use Rattle.walk.proofs.RoomLaws.{room_top}
use Rattle.walk.proofs.RingCode.{top_none, top_node}
use Rattle.walk.proofs.ring.ring_on.Goals as goal

pub returns-then-w-eq0 : goal.returns-then-w-eq0
returns-then-w-eq0 c = let p = c.requires in top_none _ _ _ _ _ _ _ _ c.args.w.opens.n_is c.args.w.opens.m_is c.if-w-eq0.true

pub ring_node-requires : goal.ring_node-requires
ring_node-requires c =
    let p = c.requires in
    let z = c.if-w-eq0.false in
    (p.0, p.1, omega (arith, pos_of_ne-zero z), room_top _ _ _ _ c.args.w.opens.table (omega (arith, c.args.w.opens.m_le)) z p.2)

pub returns : goal.returns
returns c = let p = c.requires in c.ring_node.ensures ∙ top_node _ _ _ _ _ _ _ _ c.args.w.opens.n_is c.args.w.opens.m_is c.if-w-eq0.false
