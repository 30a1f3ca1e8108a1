use mathlib.Core.Path.{ap, ◌≡◌}
use mathlib.Core.Bool.{not}
use Rattle.integers.proofs.Bools.{failed, passed}
use Rattle.words.proofs.AllLaws.{all_none, all_more, all_stop}
use Rattle.walk.proofs.NodeLaws.{box_fits}
use Rattle.leaf.specs.LeafWalk.{chamber_spot, skips}
use Rattle.leaf.proofs.FilterCode.{skips_is}
use Rattle.leaf.proofs.filter.Job.skips_all.Goals as goal

pub loop-k-init : goal.loop-k-init
loop-k-init c = all_none _

pub rules_box-requires : goal.rules_box-requires
rules_box-requires c =
    let p = c.requires in
    (c.loop-k-test.true, c.chamber-a.ensures.1, box_fits _ _ _ c.args.self.p.opens _ _ p.0 c.box_at-o.ensures, p.1)

pub returns-then-not-rules_box : goal.returns-then-not-rules_box
returns-then-not-rules_box c =
    let said : let s = c.args in c.rules_box.result ≡ skips (chamber_spot s.self.q.words.now s.self.v) s.self.count s.self.words s.self.p.words.now s.self.p.n s.u s.bits.now c.loop-k.k = skips_is _ _ _ _ _ _ _ _ _ _ _ c.chamber-a.ensures.0 c.box_at-o.ensures c.rules_box.ensures in
    all_stop _ c.loop-k.k _ c.loop-k-test.true (failed said (ap not c.if-not-rules_box.true))

pub loop-k-preserved : goal.loop-k-preserved
loop-k-preserved c =
    let said : let s = c.args in c.rules_box.result ≡ skips (chamber_spot s.self.q.words.now s.self.v) s.self.count s.self.words s.self.p.words.now s.self.p.n s.u s.bits.now c.loop-k.k = skips_is _ _ _ _ _ _ _ _ _ _ _ c.chamber-a.ensures.0 c.box_at-o.ensures c.rules_box.ensures in
    all_more _ c.loop-k.k c.loop-k.invariant (passed said (ap not c.if-not-rules_box.false))
