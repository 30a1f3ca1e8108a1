-- `leaf::run::pair_from` meets its contract: the next kept bit is that of a chamber of the leaf and of a point of P, and the first pair left is its. Assumes nothing.
use Prim.Native.Nat.{◌+◌, ◌*◌, ◌/◌, ◌<◌}
use native.Mathlib.Omega.{arith}
use Rattle.leaf.proofs.RunCode.{Told, Met, tell, place_in, position_in, next_met, next_few, next_pair}
use Rattle.leaf.proofs.run.pair_from.Goals as goal

pub overflow_add-first : goal.overflow_add-first
overflow_add-first c =
    let told : Told c.args.p.words.now c.args.p.n c.args.p.m c.args.q.words.now c.args.q.n c.args.q.m c.args.v c.args.words = tell c.args.p.opens c.args.q.opens c.requires.0 c.requires.1 c.requires.2 in
    let met : Met c.args.q.words.now c.args.p.n c.args.q.n c.args.v c.args.words c.args.bits.now c.next_from-x.result = next_met told _ c.requires.3 _ _ c.next_from-x.ensures c.requires.4 in
    let place : c.first_at-first.result + c.next_from-x.result / (64 * c.args.words) < c.args.q.n = place_in told _ _ c.first_at-first.ensures met.chamber in
    omega (arith, place, c.args.q.opens.n_le)

pub order_at-j-requires : goal.order_at-j-requires
order_at-j-requires c =
    let told : Told c.args.p.words.now c.args.p.n c.args.p.m c.args.q.words.now c.args.q.n c.args.q.m c.args.v c.args.words = tell c.args.p.opens c.args.q.opens c.requires.0 c.requires.1 c.requires.2 in
    let met : Met c.args.q.words.now c.args.p.n c.args.q.n c.args.v c.args.words c.args.bits.now c.next_from-x.result = next_met told _ c.requires.3 _ _ c.next_from-x.ensures c.requires.4 in
    let place : c.first_at-first.result + c.next_from-x.result / (64 * c.args.words) < c.args.q.n = place_in told _ _ c.first_at-first.ensures met.chamber in
    (place)

pub pair_at-pair-requires : goal.pair_at-pair-requires
pair_at-pair-requires c =
    let told : Told c.args.p.words.now c.args.p.n c.args.p.m c.args.q.words.now c.args.q.n c.args.q.m c.args.v c.args.words = tell c.args.p.opens c.args.q.opens c.requires.0 c.requires.1 c.requires.2 in
    let met : Met c.args.q.words.now c.args.p.n c.args.q.n c.args.v c.args.words c.args.bits.now c.next_from-x.result = next_met told _ c.requires.3 _ _ c.next_from-x.ensures c.requires.4 in
    (position_in told _ _ _ c.first_at-first.ensures c.order_at-j.ensures met.chamber, met.position)

pub overflow_add-next : goal.overflow_add-next
overflow_add-next c =
    let told : Told c.args.p.words.now c.args.p.n c.args.p.m c.args.q.words.now c.args.q.n c.args.q.m c.args.v c.args.words = tell c.args.p.opens c.args.q.opens c.requires.0 c.requires.1 c.requires.2 in
    omega (arith, next_few told _ c.requires.3 _ _ c.next_from-x.ensures c.requires.4)

pub returns : goal.returns
returns c =
    let told : Told c.args.p.words.now c.args.p.n c.args.p.m c.args.q.words.now c.args.q.n c.args.q.m c.args.v c.args.words = tell c.args.p.opens c.args.q.opens c.requires.0 c.requires.1 c.requires.2 in
    next_pair told _ c.requires.3 _ _ c.next_from-x.ensures c.requires.4 _ _ _ c.first_at-first.ensures c.order_at-j.ensures c.pair_at-pair.ensures

pub nonzero_div-x : goal.nonzero_div-x
nonzero_div-x c =
    let told : Told c.args.p.words.now c.args.p.n c.args.p.m c.args.q.words.now c.args.q.n c.args.q.m c.args.v c.args.words = tell c.args.p.opens c.args.q.opens c.requires.0 c.requires.1 c.requires.2 in
    let met : Met c.args.q.words.now c.args.p.n c.args.q.n c.args.v c.args.words c.args.bits.now c.next_from-x.result = next_met told _ c.requires.3 _ _ c.next_from-x.ensures c.requires.4 in
    met.some

pub nonzero_rem-x : goal.nonzero_rem-x
nonzero_rem-x c =
    let told : Told c.args.p.words.now c.args.p.n c.args.p.m c.args.q.words.now c.args.q.n c.args.q.m c.args.v c.args.words = tell c.args.p.opens c.args.q.opens c.requires.0 c.requires.1 c.requires.2 in
    let met : Met c.args.q.words.now c.args.p.n c.args.q.n c.args.v c.args.words c.args.bits.now c.next_from-x.result = next_met told _ c.requires.3 _ _ c.next_from-x.ensures c.requires.4 in
    met.some
