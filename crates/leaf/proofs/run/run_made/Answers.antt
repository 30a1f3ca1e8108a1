use mathlib.Core.Path.{◌∙◌}
use Prim.Native.Nat.{◌+◌, ◌*◌, ◌/◌, ◌<◌}
use native.Mathlib.Omega.{arith}
use Rattle.bits.proofs.NextLaws.{from_le}
use Rattle.walk.proofs.SiftLaws.{sift_next}
use Rattle.leaf.proofs.RunCode.{Passed, Told, Met, tell, leaf_going_start, run_words_few, place_in, position_in, going_met, going_few, leaf_going_room, going_clear, going_gone, made_set, made_count, made_opened}
use Rattle.leaf.proofs.run.run_made.Goals as goal
use Rattle.leaf.proofs.run.run_made.Goals.{then-clear_after, else-clear_after}

pub overflow_mul-end : goal.overflow_mul-end
overflow_mul-end c =
    let told : Told c.args.p.words.now c.args.p.n c.args.p.m c.args.q.words.now c.args.q.n c.args.q.m c.args.v c.args.words = tell c.args.p.opens c.args.q.opens c.requires.0 c.requires.1 c.requires.2 in
    omega (arith, run_words_few told _ c.count_at-chambers.ensures)

pub overflow_mul-end-2 : goal.overflow_mul-end-2
overflow_mul-end-2 c =
    let told : Told c.args.p.words.now c.args.p.n c.args.p.m c.args.q.words.now c.args.q.n c.args.q.m c.args.v c.args.words = tell c.args.p.opens c.args.q.opens c.requires.0 c.requires.1 c.requires.2 in
    omega (arith, run_words_few told _ c.count_at-chambers.ensures)

pub loop-at-init : goal.loop-at-init
loop-at-init c =
    let told : Told c.args.p.words.now c.args.p.n c.args.p.m c.args.q.words.now c.args.q.n c.args.q.m c.args.v c.args.words = tell c.args.p.opens c.args.q.opens c.requires.0 c.requires.1 c.requires.2 in
    leaf_going_start told _ _ _ c.leaf_kept-opened.ensures.0 c.leaf_kept-opened.ensures.1 c.next_from-at.ensures

pub overflow_add-first : goal.overflow_add-first
overflow_add-first c =
    let told : Told c.args.p.words.now c.args.p.n c.args.p.m c.args.q.words.now c.args.q.n c.args.q.m c.args.v c.args.words = tell c.args.p.opens c.args.q.opens c.requires.0 c.requires.1 c.requires.2 in
    let met : Met c.args.q.words.now c.args.p.n c.args.q.n c.args.v c.args.words c.loop-at.bits c.loop-at.at = going_met told _ _ _ _ c.loop-at.invariant _ c.count_at-chambers.ensures c.loop-at-test.true in
    let place : c.first_at-first.result + c.loop-at.at / (64 * c.args.words) < c.args.q.n = place_in told _ _ c.first_at-first.ensures met.chamber in
    omega (arith, place, c.args.q.opens.n_le)

pub order_at-j-requires : goal.order_at-j-requires
order_at-j-requires c =
    let told : Told c.args.p.words.now c.args.p.n c.args.p.m c.args.q.words.now c.args.q.n c.args.q.m c.args.v c.args.words = tell c.args.p.opens c.args.q.opens c.requires.0 c.requires.1 c.requires.2 in
    let met : Met c.args.q.words.now c.args.p.n c.args.q.n c.args.v c.args.words c.loop-at.bits c.loop-at.at = going_met told _ _ _ _ c.loop-at.invariant _ c.count_at-chambers.ensures c.loop-at-test.true in
    let place : c.first_at-first.result + c.loop-at.at / (64 * c.args.words) < c.args.q.n = place_in told _ _ c.first_at-first.ensures met.chamber in
    (place)

pub pair_walk-a-requires : goal.pair_walk-a-requires
pair_walk-a-requires c =
    let told : Told c.args.p.words.now c.args.p.n c.args.p.m c.args.q.words.now c.args.q.n c.args.q.m c.args.v c.args.words = tell c.args.p.opens c.args.q.opens c.requires.0 c.requires.1 c.requires.2 in
    let met : Met c.args.q.words.now c.args.p.n c.args.q.n c.args.v c.args.words c.loop-at.bits c.loop-at.at = going_met told _ _ _ _ c.loop-at.invariant _ c.count_at-chambers.ensures c.loop-at-test.true in
    (position_in told _ _ _ c.first_at-first.ensures c.order_at-j.ensures met.chamber, met.position)

pub overflow_add-opened : goal.overflow_add-opened
overflow_add-opened c =
    let told : Told c.args.p.words.now c.args.p.n c.args.p.m c.args.q.words.now c.args.q.n c.args.q.m c.args.v c.args.words = tell c.args.p.opens c.args.q.opens c.requires.0 c.requires.1 c.requires.2 in
    omega (arith, leaf_going_room told _ _ _ _ c.loop-at.invariant _ c.count_at-chambers.ensures c.loop-at-test.true _ _ _ c.pair_walk-a.ensures)

pub overflow_add-count : goal.overflow_add-count
overflow_add-count c =
    let told : Told c.args.p.words.now c.args.p.n c.args.p.m c.args.q.words.now c.args.q.n c.args.q.m c.args.v c.args.words = tell c.args.p.opens c.args.q.opens c.requires.0 c.requires.1 c.requires.2 in
    omega (arith, going_few told _ _ _ _ c.loop-at.invariant _ c.count_at-chambers.ensures c.loop-at-test.true)

pub remove-requires : goal.remove-requires
remove-requires c =
    let told : Told c.args.p.words.now c.args.p.n c.args.p.m c.args.q.words.now c.args.q.n c.args.q.m c.args.v c.args.words = tell c.args.p.opens c.args.q.opens c.requires.0 c.requires.1 c.requires.2 in
    let met : Met c.args.q.words.now c.args.p.n c.args.q.n c.args.v c.args.words c.loop-at.bits c.loop-at.at = going_met told _ _ _ _ c.loop-at.invariant _ c.count_at-chambers.ensures c.loop-at-test.true in
    met.fits

pub overflow_add-at : goal.overflow_add-at
overflow_add-at c =
    let told : Told c.args.p.words.now c.args.p.n c.args.p.m c.args.q.words.now c.args.q.n c.args.q.m c.args.v c.args.words = tell c.args.p.opens c.args.q.opens c.requires.0 c.requires.1 c.requires.2 in
    omega (arith, c.loop-at-test.true, run_words_few told _ c.count_at-chambers.ensures)

pub loop-at-smaller : goal.loop-at-smaller
loop-at-smaller c =
    omega (arith, from_le _ _ _ c.next_from-at-in-loop-at.ensures, c.loop-at-test.true)

pub loop-at-preserved : goal.loop-at-preserved
loop-at-preserved c =
    let told : Told c.args.p.words.now c.args.p.n c.args.p.m c.args.q.words.now c.args.q.n c.args.q.m c.args.v c.args.words = tell c.args.p.opens c.args.q.opens c.requires.0 c.requires.1 c.requires.2 in
    let turn : Passed c.args.p.words.now c.args.q.words.now c.args.v c.args.words c.if-clear_after.bits c.if-clear_after.count (c.loop-at.opened + c.pair_walk-a.result.opened) (c.loop-at.at + 1) =
    elim c.if-clear_after.branch [
      | then-clear_after w ↦ going_clear told _ _ _ _ c.loop-at.invariant _ c.count_at-chambers.ensures c.loop-at-test.true _ _ c.first_at-first.ensures c.order_at-j.ensures _ c.pair_walk-a.ensures _ c.clear_after.ensures w.if-clear_after.true _ _ w.bits-is w.count-is
      | else-clear_after w ↦ going_gone told _ _ _ _ c.loop-at.invariant _ c.count_at-chambers.ensures c.loop-at-test.true _ _ c.first_at-first.ensures c.order_at-j.ensures _ c.pair_walk-a.ensures _ c.clear_after.ensures w.if-clear_after.false _ _ (w.bits-is ∙ w.remove.ensures) w.count-is
    ] in
    sift_next _ _ _ _ _ _ _ _ c.next_from-at-in-loop-at.ensures turn

pub returns : goal.returns
returns c =
    let told : Told c.args.p.words.now c.args.p.n c.args.p.m c.args.q.words.now c.args.q.n c.args.q.m c.args.v c.args.words = tell c.args.p.opens c.args.q.opens c.requires.0 c.requires.1 c.requires.2 in
    let e = c.count_at-chambers.ensures in
    let h = c.loop-at-test.false in
    (made_set told _ _ _ _ c.loop-at.invariant _ e h, made_count told _ _ _ _ c.loop-at.invariant _ e h, made_opened told _ _ _ _ c.loop-at.invariant _ e h)
