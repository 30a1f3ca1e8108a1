-- `outward::waiting::take_out` meets its contract. Assumes nothing.
use native.Mathlib.Omega.{arith}
use Rattle.outward.proofs.WaitingLaws.{heaped_fewer, taken_by}
use Rattle.outward.proofs.waiting.take_out.Goals as goal

pub sink-requires : goal.sink-requires
sink-requires c =
    let p = c.requires in
    (p.0, p.1.keys.each _ (omega (arith, p.2)), heaped_fewer _ _ _ _ _ _ p.2 p.1, omega (arith, p.2, p.3), p.4)

pub returns : goal.returns
returns c =
    let p = c.requires in
    let e = c.sink.ensures in
    taken_by _ _ _ _ _ _ p.2 p.1 (omega (arith, p.3, p.4)) _ e.0 e.1 e.2
