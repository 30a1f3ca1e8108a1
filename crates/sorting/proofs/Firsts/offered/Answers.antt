-- `sorting::Firsts::offered` meets its contract. Assumes nothing.
use native.Mathlib.Omega.{arith}
use Rattle.sorting.proofs.FirstsLaws.{never_enters, offer_asks, offer_put, offer_not}
use Rattle.sorting.proofs.Firsts.offered.Goals as goal

pub returns-then-not-enters : goal.returns-then-not-enters
returns-then-not-enters g c =
    let t = g.O.Comparison in
    let n = never_enters t.before t.unused c.args.k c.args.self.now c.args.v c.enters.result c.enters.ensures c.if-not-enters.true in
    offer_not t.before t.unused c.args.k c.requires.0 c.requires.1 c.args.self.now c.requires.2 c.args.v g.met.O.Comparison.lawful n.0 n.1

pub put-requires : goal.put-requires
put-requires g c = (omega arith, offer_asks g.O.Comparison.before g.O.Comparison.unused c.args.k c.requires.0 c.requires.1 c.args.self.now c.requires.2 c.args.v c.min.result c.min.ensures)

pub returns : goal.returns
returns g c =
    offer_put g.O.Comparison.before g.O.Comparison.unused c.args.k c.requires.0 c.requires.1 c.args.self.now c.requires.2 c.args.v c.enters.result c.enters.ensures c.if-not-enters.false _ c.min.ensures _ c.put.ensures
