-- `leaf::filter::weigh_at` meets its contract. Assumes nothing.
use Prim.Native.Nat.{◌*◌, ◌<◌}
use native.Mathlib.Omega.{arith}
use lib.ListN.{length}
use Rattle.walk.proofs.NodeLaws.{spot_fits}
use Rattle.leaf.specs.LeafWalk.{slot}
use Rattle.leaf.proofs.LeafLaws.{slot_fits}
use Rattle.leaf.proofs.FilterCode.{chambers_few, weigh_yes, weigh_no}
use Rattle.leaf.proofs.filter.Job.weigh_at.Goals as goal

pub box_at-requires : goal.box_at-requires
box_at-requires c = let p = c.requires in spot_fits _ _ _ c.args.self.p.opens _ _ p.0 c.spot_at-z.ensures

pub returns-then-rules_box : goal.returns-then-rules_box
returns-then-rules_box c =
    weigh_yes _ _ _ _ _ _ _ _ _ _ _ _ c.chamber-a.ensures.0 c.spot_at-z.ensures c.box_at.ensures.0 c.rules_box.ensures c.if-rules_box.true

pub overflow_mul-self : goal.overflow_mul-self
overflow_mul-self c =
    let within : slot c.args.self.words c.args.k c.args.i < 64 * length c.args.bits.now = let few = chambers_few _ _ _ _ _ _ c.args.self.leaf in
    omega (arith, slot_fits c.args.self.words c.args.k c.args.i (omega (arith, few, c.requires.1)) (omega (arith, c.requires.0, c.requires.2.enough)), c.requires.2.long) in
    omega (arith, within, c.requires.2.long, c.requires.2.small)

pub overflow_mul-self-2 : goal.overflow_mul-self-2
overflow_mul-self-2 c =
    let within : slot c.args.self.words c.args.k c.args.i < 64 * length c.args.bits.now = let few = chambers_few _ _ _ _ _ _ c.args.self.leaf in
    omega (arith, slot_fits c.args.self.words c.args.k c.args.i (omega (arith, few, c.requires.1)) (omega (arith, c.requires.0, c.requires.2.enough)), c.requires.2.long) in
    omega (arith, within, c.requires.2.long, c.requires.2.small)

pub overflow_add-self : goal.overflow_add-self
overflow_add-self c =
    let within : slot c.args.self.words c.args.k c.args.i < 64 * length c.args.bits.now = let few = chambers_few _ _ _ _ _ _ c.args.self.leaf in
    omega (arith, slot_fits c.args.self.words c.args.k c.args.i (omega (arith, few, c.requires.1)) (omega (arith, c.requires.0, c.requires.2.enough)), c.requires.2.long) in
    omega (arith, within, c.requires.2.long, c.requires.2.small)

pub insert-requires : goal.insert-requires
insert-requires c =
    let within : slot c.args.self.words c.args.k c.args.i < 64 * length c.args.bits.now = let few = chambers_few _ _ _ _ _ _ c.args.self.leaf in
    omega (arith, slot_fits c.args.self.words c.args.k c.args.i (omega (arith, few, c.requires.1)) (omega (arith, c.requires.0, c.requires.2.enough)), c.requires.2.long) in
    within

pub returns : goal.returns
returns c =
    weigh_no _ _ _ _ _ _ _ _ _ _ _ _ _ c.chamber-a.ensures.0 c.spot_at-z.ensures c.box_at.ensures.0 c.rules_box.ensures c.if-rules_box.false c.insert.ensures
