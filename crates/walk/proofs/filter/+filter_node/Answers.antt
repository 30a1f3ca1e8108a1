use mathlib.Core.Path.{◌≡◌, refl, sym, ap, subst, ◌∙◌}
use mathlib.Core.Bool.{false}
use Prim.Native.Nat.{ℕ, ◌+◌, ◌<◌}
use native.Mathlib.Omega.{arith}
use native.Mathlib.Nat.{pos_of_ne-zero}
use Rattle.sheet.specs.Nodes.{level_of}
use Rattle.sheet.specs.Boxes.{tree_size}
use Rattle.bits.proofs.SomeLaws.{finds_some}
use Rattle.walk.specs.FilterWalk.{so_far, shut, filter_node}
use Rattle.walk.proofs.NodeLaws.{Node, kid, leaf_fits, box_fits}
use Rattle.walk.proofs.LatestLaws.{tries_found}
use Rattle.walk.proofs.FilterCode.{shut_is, still_holds, node_shut, node_leaf, node_above, rounds_start, rounds_room, rounds_step, rounds_end}
use Rattle.walk.proofs.filter.+filter_node.Goals as goal

pub drops_all-by-requires : goal.drops_all-by-requires
drops_all-by-requires t c =
    let p = c.requires in
    (p.0, box_fits _ _ _ c.args.w.opens _ _ p.1 c.box_at-o.ensures, p.2, p.4)

pub returns-then-by-w : goal.returns-then-by-w
returns-then-by-w t c =
    let f = c.drops_all-by.ensures in
    (node_shut _ _ _ _ _ _ (shut_is _ _ _ _ _ _ _ c.box_at-o.ensures (finds_some _ _ _ _ f c.if-by-w.true)), tries_found _ _ _ _ _ _ f.known c.requires.4)

pub filter_places-c-requires : goal.filter_places-c-requires
filter_places-c-requires t c =
    let here : Node c.args.w.words.now c.args.w.n c.args.w.m c.args.j c.level_at-level.result c.first_at-first.result c.count_at-count.result = record { table = c.args.w.opens.table; here = c.requires.1; is_level = c.level_at-level.ensures; is_first = c.first_at-first.ensures; is_count = c.count_at-count.ensures } in
    let p = c.requires in
    (p.0, leaf_fits _ _ _ _ _ _ _ here c.if-level-eq0.true, p.2, p.4)

pub returns-then-level-eq0 : goal.returns-then-level-eq0
returns-then-level-eq0 t c =
    let here : Node c.args.w.words.now c.args.w.n c.args.w.m c.args.j c.level_at-level.result c.first_at-first.result c.count_at-count.result = record { table = c.args.w.opens.table; here = c.requires.1; is_level = c.level_at-level.ensures; is_first = c.first_at-first.ensures; is_count = c.count_at-count.ensures } in
    let unshut : shut c.args.w.words.now c.args.w.n c.args.q c.args.j c.args.bits.now ≡ false = shut_is _ _ _ _ _ _ _ c.box_at-o.ensures (c.drops_all-by.ensures.none_left c.if-by-w.false) in
    let home : filter_node c.args.w.words.now c.args.w.n c.args.q c.level_at-level.result c.args.j (so_far c.args.bits.now c.args.so.opened) ≡ filter_node c.args.w.words.now c.args.w.n c.args.q (level_of c.args.w.words.now c.args.w.n c.args.j) c.args.j (so_far c.args.bits.now c.args.so.opened) = ap (λ (l : ℕ). filter_node c.args.w.words.now c.args.w.n c.args.q l c.args.j (so_far c.args.bits.now c.args.so.opened)) c.level_at-level.ensures in
    (node_leaf _ _ _ _ _ _ _ _ _ _ c.if-level-eq0.true here.is_first here.is_count unshut c.filter_places-c.ensures.0 ∙ home, c.filter_places-c.ensures.1)

pub loop-i-init : goal.loop-i-init
loop-i-init t c =
    let here : Node c.args.w.words.now c.args.w.n c.args.w.m c.args.j c.level_at-level.result c.first_at-first.result c.count_at-count.result = record { table = c.args.w.opens.table; here = c.requires.1; is_level = c.level_at-level.ensures; is_first = c.first_at-first.ensures; is_count = c.count_at-count.ensures } in
    let room : c.args.so.opened + tree_size c.args.w.words.now c.args.w.n c.level_at-level.result c.args.j < 9223372036854775808 = subst (λ (l : ℕ). c.args.so.opened + tree_size c.args.w.words.now c.args.w.n l c.args.j < 9223372036854775808) (sym c.level_at-level.ensures) c.requires.3 in
    (rounds_start _ _ _ _ _ _ _ _ _ c.if-level-eq0.false here.is_first here.is_count room, c.requires.4, refl)

pub overflow_add-first : goal.overflow_add-first
overflow_add-first t c =
    let here : Node c.args.w.words.now c.args.w.n c.args.w.m c.args.j c.level_at-level.result c.first_at-first.result c.count_at-count.result = record { table = c.args.w.opens.table; here = c.requires.1; is_level = c.level_at-level.ensures; is_first = c.first_at-first.ensures; is_count = c.count_at-count.ensures } in
    omega (arith, (kid _ _ _ _ _ _ _ here c.if-level-eq0.false c.loop-i.i c.loop-i-test.true).0, c.args.w.opens.m_le)

pub filter_node-c-requires : goal.filter_node-c-requires
filter_node-c-requires t c =
    let here : Node c.args.w.words.now c.args.w.n c.args.w.m c.args.j c.level_at-level.result c.first_at-first.result c.count_at-count.result = record { table = c.args.w.opens.table; here = c.requires.1; is_level = c.level_at-level.ensures; is_first = c.first_at-first.ensures; is_count = c.count_at-count.ensures } in
    let p = c.requires in
    let z = c.if-level-eq0.false in
    let k = kid _ _ _ _ _ _ _ here z c.loop-i.i c.loop-i-test.true in
    let r = rounds_room _ _ _ _ _ _ _ _ _ _ c.loop-i.i c.loop-i-test.true c.loop-i.invariant.0 in (
      omega (arith, k.1, here.is_level, c.decreases, pos_of_ne-zero z),
      (p.0, k.0, still_holds _ _ _ c.loop-i.invariant.0.long p.2, rw k.1 r, c.loop-i.invariant.1),
    )

pub loop-i-preserved : goal.loop-i-preserved
loop-i-preserved t c =
    let here : Node c.args.w.words.now c.args.w.n c.args.w.m c.args.j c.level_at-level.result c.first_at-first.result c.count_at-count.result = record { table = c.args.w.opens.table; here = c.requires.1; is_level = c.level_at-level.ensures; is_first = c.first_at-first.ensures; is_count = c.count_at-count.ensures } in
    let k = kid _ _ _ _ _ _ _ here c.if-level-eq0.false c.loop-i.i c.loop-i-test.true in
    (rounds_step _ _ _ _ _ _ _ _ _ _ _ _ c.loop-i.i c.loop-i-test.true c.loop-i.invariant.0 c.filter_node-c.auto.bits (rw k.1 at c.filter_node-c.ensures.0), c.filter_node-c.ensures.1, c.filter_node-c.auto.latest ∙ c.loop-i.invariant.2)

pub returns : goal.returns
returns t c =
    let here : Node c.args.w.words.now c.args.w.n c.args.w.m c.args.j c.level_at-level.result c.first_at-first.result c.count_at-count.result = record { table = c.args.w.opens.table; here = c.requires.1; is_level = c.level_at-level.ensures; is_first = c.first_at-first.ensures; is_count = c.count_at-count.ensures } in
    let unshut : shut c.args.w.words.now c.args.w.n c.args.q c.args.j c.args.bits.now ≡ false = shut_is _ _ _ _ _ _ _ c.box_at-o.ensures (c.drops_all-by.ensures.none_left c.if-by-w.false) in
    let home : filter_node c.args.w.words.now c.args.w.n c.args.q c.level_at-level.result c.args.j (so_far c.args.bits.now c.args.so.opened) ≡ filter_node c.args.w.words.now c.args.w.n c.args.q (level_of c.args.w.words.now c.args.w.n c.args.j) c.args.j (so_far c.args.bits.now c.args.so.opened) = ap (λ (l : ℕ). filter_node c.args.w.words.now c.args.w.n c.args.q l c.args.j (so_far c.args.bits.now c.args.so.opened)) c.level_at-level.ensures in (
      rounds_end _ _ _ _ _ _ _ _ _ _ c.loop-i.i c.loop-i-test.false c.loop-i.invariant.0
          ∙ node_above _ _ _ _ _ _ _ _ _ c.if-level-eq0.false here.is_first here.is_count unshut ∙ home,
      c.loop-i.invariant.1,
    )
