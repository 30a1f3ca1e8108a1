-- `walk::filter::filter_kept` meets its contract. Assumes nothing.
use native.Mathlib.Omega.{arith}
use native.Mathlib.Nat.{pos_of_ne-zero}
use Rattle.walk.proofs.RoomLaws.{room_top}
use Rattle.walk.proofs.LatestLaws.{tries_none}
use Rattle.walk.proofs.FilterCode.{still_holds, walked_none, walked}
use Rattle.walk.proofs.filter.filter_kept.Goals as goal

pub returns-then-w-eq0 : goal.returns-then-w-eq0
returns-then-w-eq0 c =
    let s = c in
    walked_none _ _ _ _ _ _ s.args.w.opens.n_is s.args.w.opens.m_is c.if-w-eq0.true c.clear.ensures

pub filter_node-all-requires : goal.filter_node-all-requires
filter_node-all-requires c =
    let k = c in
    let p = k.requires in
    let z = c.if-w-eq0.false in
    (p.0, omega (arith, pos_of_ne-zero z), still_holds _ _ _ k.clear.auto.bits p.1, room_top _ _ _ _ k.args.w.opens.table (omega (arith, k.args.w.opens.m_le)) z (omega arith), tries_none _ _ _ _ k.clear.ensures)

pub returns : goal.returns
returns c =
    let k = c in
    let p = k.requires in
    walked _ _ _ _ _ _ _ _ k.args.w.opens.n_is k.args.w.opens.m_is c.if-w-eq0.false k.clear.ensures c.filter_node-all.ensures.0
