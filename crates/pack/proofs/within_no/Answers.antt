-- `pack::within_no` meets its contract: at each return, the tests that held and the one that did not. Assumes nothing.
use mathlib.Core.Path.{ap}
use mathlib.Core.Bool.{not}
use native.Mathlib.Omega.{arith}
use Rattle.integers.proofs.Bools.{passed, failed}
use Rattle.words.specs.First.{given, first}
use Rattle.pack.specs.Pack.{within_no}
use Rattle.pack.proofs.PackLaws.{shape_points, shape_order, range_few, pack_size_fits, size_differs}
use Rattle.pack.proofs.within_no.Goals as goal

pub returns-then-not-range_ok : goal.returns-then-not-range_ok
unfolding within_no first given
returns-then-not-range_ok c = rw (failed c.range_ok.ensures (ap not c.if-not-range_ok.true))

pub points_ok-requires : goal.points_ok-requires
points_ok-requires c =
    let s = c in
    omega (arith, s.requires.0.points_le, range_few s.args.lim s.args.n s.args.edition (passed c.range_ok.ensures (ap not c.if-not-range_ok.false)), shape_points _ _ _ s.requires.1)

pub returns-then-not-points_ok : goal.returns-then-not-points_ok
unfolding within_no first given
returns-then-not-points_ok c = rw (passed c.range_ok.ensures (ap not c.if-not-range_ok.false), failed c.points_ok.ensures (ap not c.if-not-points_ok.true))

pub each_once-requires : goal.each_once-requires
each_once-requires c =
    let s = c in
    let h = range_few s.args.lim s.args.n s.args.edition (passed c.range_ok.ensures (ap not c.if-not-range_ok.false)) in
    (omega (arith, shape_order _ _ _ s.requires.1), omega (arith, s.requires.2), λ i l. s.requires.3 i (omega arith))

pub returns-then-not-each_once : goal.returns-then-not-each_once
unfolding within_no first given
returns-then-not-each_once c =
    let u = c in
    let b = passed u.range_ok.ensures (ap not u.if-not-range_ok.false) in
    let d = passed u.points_ok.ensures (ap not u.if-not-points_ok.false) in
    rw (b, d, failed c.each_once.ensures (ap not c.if-not-each_once.true))

pub size_for-requires : goal.size_for-requires
size_for-requires c =
    let s = c in
    omega (arith, s.requires.0.points_le, range_few s.args.lim s.args.n s.args.edition (passed c.range_ok.ensures (ap not c.if-not-range_ok.false)))

pub returns-then-size-size_for : goal.returns-then-size-size_for
unfolding within_no first given
returns-then-size-size_for c =
    let u = c in
    let b = passed u.range_ok.ensures (ap not u.if-not-range_ok.false) in
    let d = passed u.points_ok.ensures (ap not u.if-not-points_ok.false) in
    rw (b, d, passed c.each_once.ensures (ap not c.if-not-each_once.false), size_differs _ _ _ c.size_for.ensures c.if-size-size_for.true)

pub returns : goal.returns
unfolding within_no first given
returns c =
    let u = c in
    let b = passed u.range_ok.ensures (ap not u.if-not-range_ok.false) in
    let d = passed u.points_ok.ensures (ap not u.if-not-points_ok.false) in
    rw (b, d, passed c.each_once.ensures (ap not c.if-not-each_once.false), pack_size_fits _ _ _ c.size_for.ensures c.if-size-size_for.false)
