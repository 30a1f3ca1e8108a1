use Prim.Native.Nat.{◌-◌, ◌<◌}
use native.Mathlib.Omega.{arith}
use lib.ListN.{get_or}
use Rattle.walk.specs.Latest.{Lists}
use Rattle.walk.proofs.NodeLaws.{spot_fits}
use Rattle.bits.proofs.SomeLaws.{finds_at}
use Rattle.walk.proofs.LatestLaws.{asked_more, asked_yes, asked_end, says_at}
use Rattle.walk.proofs.filter.seek.Invariants.{drops_at}
use Rattle.walk.proofs.filter.seek.Goals as goal

pub test-requires : goal.test-requires
test-requires g c = c.requires.4.may _ (spot_fits _ _ _ c.args.w.opens _ _ c.if-line-w.true c.spot_at-p.ensures)

pub test-requires-in-loop-k : goal.test-requires-in-loop-k
test-requires-in-loop-k g c =
    let lists : Lists c.args.bits.now c.args.w.n c.args.latest.now c.args.line.count = c.requires.3.listed c.if-line-latest.false in
    let one : c.loop-k.k - 1 < c.args.line.count = omega (arith, c.loop-k-test.true, c.loop-k.invariant.most) in
    c.requires.4.may _ (spot_fits _ _ _ c.args.w.opens _ _ (lists.below (c.loop-k.k - 1) one) c.spot_at-p-in-loop-k.ensures)

pub returns-then-test : goal.returns-then-test
returns-then-test g c =
    finds_at c.args.bits.now _ c.args.w.n c.args.line.last c.if-line-w.true c.requires.3.known (says_at _ _ _ _ c.requires.4 _ _ _ c.args.w.opens _ _ _ c.if-line-w.true c.spot_at-p.ensures c.if-test.ensures)

pub returns-then-test-2 : goal.returns-then-test-2
returns-then-test-2 g c =
    let lists : Lists c.args.bits.now c.args.w.n c.args.latest.now c.args.line.count = c.requires.3.listed c.if-line-latest.false in
    let one : c.loop-k.k - 1 < c.args.line.count = omega (arith, c.loop-k-test.true, c.loop-k.invariant.most) in
    asked_yes c.args.latest.now (drops_at c.args.w.words.now c.args.q c.args.o) c.args.line.count c.args.bits.now c.args.w.n lists (c.loop-k.k - 1) one (says_at _ _ _ _ c.requires.4 _ _ _ c.args.w.opens (get_or c.args.latest.now (c.loop-k.k - 1) 0) _ _ (lists.below (c.loop-k.k - 1) one) c.spot_at-p-in-loop-k.ensures c.if-test-2.ensures)

pub loop-k-preserved : goal.loop-k-preserved
loop-k-preserved g c =
    let lists : Lists c.args.bits.now c.args.w.n c.args.latest.now c.args.line.count = c.requires.3.listed c.if-line-latest.false in
    let one : c.loop-k.k - 1 < c.args.line.count = omega (arith, c.loop-k-test.true, c.loop-k.invariant.most) in
    asked_more c.args.latest.now (drops_at c.args.w.words.now c.args.q c.args.o) c.args.line.count c.loop-k.k c.loop-k-test.true (says_at _ _ _ _ c.requires.4 _ _ _ c.args.w.opens (get_or c.args.latest.now (c.loop-k.k - 1) 0) _ _ (lists.below (c.loop-k.k - 1) one) c.spot_at-p-in-loop-k.ensures c.if-test-2.ensures) c.loop-k.invariant

pub returns : goal.returns
returns g c =
    let lists : Lists c.args.bits.now c.args.w.n c.args.latest.now c.args.line.count = c.requires.3.listed c.if-line-latest.false in
    asked_end c.args.latest.now (drops_at c.args.w.words.now c.args.q c.args.o) c.args.line.count c.args.bits.now c.args.w.n lists c.loop-k.k c.loop-k-test.false c.loop-k.invariant
