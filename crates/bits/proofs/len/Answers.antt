use Prim.Native.Nat.{◌≤◌}
use native.Mathlib.Omega.{arith}
use lib.ListN.{get_or}
use lib.Count.{ones, ones-le}
use Rattle.bits.proofs.CardLaws.{rest_start, rest_step, rest_end}
use Rattle.bits.proofs.len.Goals as goal

pub loop-word-init : goal.loop-word-init
loop-word-init c = (omega arith, omega (arith, rest_start c.args.bits.now))

pub loop-word-preserved : goal.loop-word-preserved
loop-word-preserved c =
    let fits = (c.type_inv.bits c.loop-word.word-index).fits in
    let s = rest_step c.args.bits.now c.loop-word.word-index c.loop-word-test.true fits in
    let few : ones (get_or c.args.bits.now c.loop-word.word-index 0) ≤ 64 = ones-le 64 _ fits in
    (omega arith, omega (arith, s))

pub returns : goal.returns
returns c = omega (arith, c.loop-word.invariant.1, rest_end c.args.bits.now c.loop-word.word-index c.loop-word-test.false)
