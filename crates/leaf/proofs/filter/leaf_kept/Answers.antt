-- `leaf::filter::leaf_kept` meets its contract. Assumes nothing.
use native.Mathlib.Omega.{arith}
use native.Mathlib.Nat.{pos_of_ne-zero}
use Rattle.walk.proofs.RoomLaws.{room_top}
use Rattle.leaf.proofs.FilterCode.{still_sets, leaf_walked_none, leaf_walked}
use Rattle.leaf.proofs.filter.leaf_kept.Goals as goal

pub returns-then-p-eq0 : goal.returns-then-p-eq0
returns-then-p-eq0 c =
    let p = c.requires in
    leaf_walked_none _ _ _ _ _ _ _ _ c.args.p.opens.n_is c.args.p.opens.m_is c.if-p-eq0.true p.2 c.clear.ensures

pub leaf_node-requires : goal.leaf_node-requires
leaf_node-requires c =
    let p = c.requires in
    let z = c.if-p-eq0.false in (
      omega (arith, pos_of_ne-zero z),
      still_sets _ _ _ _ c.clear.auto.bits p.2,
      room_top _ _ _ _ c.args.p.opens.table (omega (arith, c.args.p.opens.m_le)) z (omega arith),
    )

pub returns : goal.returns
returns c =
    let p = c.requires in
    leaf_walked _ _ _ _ _ _ _ _ _ _ _ c.count_at-count.ensures c.args.p.opens.n_is c.args.p.opens.m_is c.if-p-eq0.false p.2 c.clear.ensures c.leaf_node.ensures
