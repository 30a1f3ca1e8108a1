-- `outward::waiting::put_root` meets its contract. Assumes nothing.
use Prim.Native.Nat.{◌<◌}
use native.Mathlib.Omega.{arith}
use native.Mathlib.Nat.{pos_of_ne-zero}
use Rattle.outward.proofs.WaitingLaws.{root_none, root_kind, root_some, past_same, past_set}
use Rattle.outward.proofs.waiting.put_root.Goals as goal

pub returns-then-w-eq0 : goal.returns-then-w-eq0
returns-then-w-eq0 c = let a = root_none _ _ _ _ _ c.if-w-eq0.true in (a.0, a.1, past_same _ _)

pub key-x-requires : goal.key-x-requires
key-x-requires c = let p = c.requires in (p.0, root_kind _ _ c.if-w-eq0.false)

pub returns : goal.returns
returns c =
    let p = c.requires in
    let z = c.if-w-eq0.false in
    let k = c.key-x.ensures in
    let some : 0 < c.args.w.m = pos_of_ne-zero z in
    let a = root_some _ _ _ _ c.args.waiting.now _ z (omega (arith, p.1)) k.0 k.1 in
    (a.0, a.1, past_set _ _ _ _ _ some (past_same _ _))
