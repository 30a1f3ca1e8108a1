use mathlib.Core.Path.{◌≡◌, sym, ap, subst, ◌∙◌}
use mathlib.Core.Bool.{false}
use Prim.Native.Nat.{ℕ, ◌+◌, ◌<◌}
use native.Mathlib.Omega.{arith}
use native.Mathlib.Nat.{pos_of_ne-zero}
use Rattle.words.specs.All.{all_b}
use Rattle.sheet.specs.Nodes.{level_of}
use Rattle.sheet.specs.Boxes.{tree_size}
use Rattle.walk.specs.FilterWalk.{so_far}
use Rattle.walk.proofs.NodeLaws.{Node, kid, leaf_fits}
use Rattle.leaf.specs.LeafWalk.{chamber_spot, skips, leaf_node}
use Rattle.leaf.proofs.FilterCode.{still_sets, node_skip, leaf_node_leaf, leaf_node_above, leaf_rounds_start, leaf_rounds_room, leaf_rounds_step, leaf_rounds_end}
use Rattle.leaf.proofs.filter.Job.+leaf_node.Goals as goal

pub returns-then-skips_all : goal.returns-then-skips_all
returns-then-skips_all t c =
    node_skip _ _ _ _ _ _ _ _ (sym c.skips_all.ensures ∙ c.if-skips_all.true)

pub overflow_add-so : goal.overflow_add-so
overflow_add-so t c =
    let room : c.args.opened + tree_size c.args.self.p.words.now c.args.self.p.n c.level_at-level.result c.args.u < 9223372036854775808 = subst (λ (l : ℕ). c.args.opened + tree_size c.args.self.p.words.now c.args.self.p.n l c.args.u < 9223372036854775808) (sym c.level_at-level.ensures) c.requires.2 in
    omega (arith, room)

pub leaf_places-requires : goal.leaf_places-requires
leaf_places-requires t c =
    let here : Node c.args.self.p.words.now c.args.self.p.n c.args.self.p.m c.args.u c.level_at-level.result c.first_at-first.result c.count_at-count.result = record { table = c.args.self.p.opens.table; here = c.requires.0; is_level = c.level_at-level.ensures; is_first = c.first_at-first.ensures; is_count = c.count_at-count.ensures } in
    let p = c.requires in
    (leaf_fits _ _ _ _ _ _ _ here c.if-level-eq0.true, p.1)

pub returns-then-level-eq0 : goal.returns-then-level-eq0
returns-then-level-eq0 t c =
    let here : Node c.args.self.p.words.now c.args.self.p.n c.args.self.p.m c.args.u c.level_at-level.result c.first_at-first.result c.count_at-count.result = record { table = c.args.self.p.opens.table; here = c.requires.0; is_level = c.level_at-level.ensures; is_first = c.first_at-first.ensures; is_count = c.count_at-count.ensures } in
    let unskipped : all_b c.args.self.count (skips (chamber_spot c.args.self.q.words.now c.args.self.v) c.args.self.count c.args.self.words c.args.self.p.words.now c.args.self.p.n c.args.u c.args.bits.now) ≡ false = sym c.skips_all.ensures ∙ c.if-skips_all.false in
    let home : leaf_node (chamber_spot c.args.self.q.words.now c.args.self.v) c.args.self.count c.args.self.words c.args.self.p.words.now c.args.self.p.n c.level_at-level.result c.args.u (so_far c.args.bits.now c.args.opened) ≡ leaf_node (chamber_spot c.args.self.q.words.now c.args.self.v) c.args.self.count c.args.self.words c.args.self.p.words.now c.args.self.p.n (level_of c.args.self.p.words.now c.args.self.p.n c.args.u) c.args.u (so_far c.args.bits.now c.args.opened) = ap (λ (l : ℕ). leaf_node (chamber_spot c.args.self.q.words.now c.args.self.v) c.args.self.count c.args.self.words c.args.self.p.words.now c.args.self.p.n l c.args.u (so_far c.args.bits.now c.args.opened)) c.level_at-level.ensures in
    leaf_node_leaf _ _ _ _ _ _ _ _ _ _ _ _ c.if-level-eq0.true here.is_first here.is_count unskipped c.leaf_places.ensures ∙ home

pub loop-i-init : goal.loop-i-init
loop-i-init t c =
    let here : Node c.args.self.p.words.now c.args.self.p.n c.args.self.p.m c.args.u c.level_at-level.result c.first_at-first.result c.count_at-count.result = record { table = c.args.self.p.opens.table; here = c.requires.0; is_level = c.level_at-level.ensures; is_first = c.first_at-first.ensures; is_count = c.count_at-count.ensures } in
    let room : c.args.opened + tree_size c.args.self.p.words.now c.args.self.p.n c.level_at-level.result c.args.u < 9223372036854775808 = subst (λ (l : ℕ). c.args.opened + tree_size c.args.self.p.words.now c.args.self.p.n l c.args.u < 9223372036854775808) (sym c.level_at-level.ensures) c.requires.2 in
    leaf_rounds_start _ _ _ _ _ _ _ _ _ _ _ c.if-level-eq0.false here.is_first here.is_count room

pub overflow_add-first : goal.overflow_add-first
overflow_add-first t c =
    let here : Node c.args.self.p.words.now c.args.self.p.n c.args.self.p.m c.args.u c.level_at-level.result c.first_at-first.result c.count_at-count.result = record { table = c.args.self.p.opens.table; here = c.requires.0; is_level = c.level_at-level.ensures; is_first = c.first_at-first.ensures; is_count = c.count_at-count.ensures } in
    omega (arith, (kid _ _ _ _ _ _ _ here c.if-level-eq0.false c.loop-i.i c.loop-i-test.true).0, c.args.self.p.opens.m_le)

pub leaf_node-so-requires : goal.leaf_node-so-requires
leaf_node-so-requires t c =
    let here : Node c.args.self.p.words.now c.args.self.p.n c.args.self.p.m c.args.u c.level_at-level.result c.first_at-first.result c.count_at-count.result = record { table = c.args.self.p.opens.table; here = c.requires.0; is_level = c.level_at-level.ensures; is_first = c.first_at-first.ensures; is_count = c.count_at-count.ensures } in
    let p = c.requires in
    let z = c.if-level-eq0.false in
    let k = kid _ _ _ _ _ _ _ here z c.loop-i.i c.loop-i-test.true in
    let r = leaf_rounds_room _ _ _ _ _ _ _ _ _ _ _ _ c.loop-i.i c.loop-i-test.true c.loop-i.invariant in
    (omega (arith, k.1, here.is_level, c.decreases, pos_of_ne-zero z), (k.0, still_sets _ _ _ _ c.loop-i.invariant.long p.1, rw k.1 r))

pub loop-i-preserved : goal.loop-i-preserved
loop-i-preserved t c =
    let here : Node c.args.self.p.words.now c.args.self.p.n c.args.self.p.m c.args.u c.level_at-level.result c.first_at-first.result c.count_at-count.result = record { table = c.args.self.p.opens.table; here = c.requires.0; is_level = c.level_at-level.ensures; is_first = c.first_at-first.ensures; is_count = c.count_at-count.ensures } in
    let k = kid _ _ _ _ _ _ _ here c.if-level-eq0.false c.loop-i.i c.loop-i-test.true in
    leaf_rounds_step _ _ _ _ _ _ _ _ _ _ _ _ _ _ c.loop-i.i c.loop-i-test.true c.loop-i.invariant c.leaf_node-so.auto.bits (rw k.1 at c.leaf_node-so.ensures)

pub returns : goal.returns
returns t c =
    let here : Node c.args.self.p.words.now c.args.self.p.n c.args.self.p.m c.args.u c.level_at-level.result c.first_at-first.result c.count_at-count.result = record { table = c.args.self.p.opens.table; here = c.requires.0; is_level = c.level_at-level.ensures; is_first = c.first_at-first.ensures; is_count = c.count_at-count.ensures } in
    let unskipped : all_b c.args.self.count (skips (chamber_spot c.args.self.q.words.now c.args.self.v) c.args.self.count c.args.self.words c.args.self.p.words.now c.args.self.p.n c.args.u c.args.bits.now) ≡ false = sym c.skips_all.ensures ∙ c.if-skips_all.false in
    let home : leaf_node (chamber_spot c.args.self.q.words.now c.args.self.v) c.args.self.count c.args.self.words c.args.self.p.words.now c.args.self.p.n c.level_at-level.result c.args.u (so_far c.args.bits.now c.args.opened) ≡ leaf_node (chamber_spot c.args.self.q.words.now c.args.self.v) c.args.self.count c.args.self.words c.args.self.p.words.now c.args.self.p.n (level_of c.args.self.p.words.now c.args.self.p.n c.args.u) c.args.u (so_far c.args.bits.now c.args.opened) = ap (λ (l : ℕ). leaf_node (chamber_spot c.args.self.q.words.now c.args.self.v) c.args.self.count c.args.self.words c.args.self.p.words.now c.args.self.p.n l c.args.u (so_far c.args.bits.now c.args.opened)) c.level_at-level.ensures in
    leaf_rounds_end _ _ _ _ _ _ _ _ _ _ _ _ c.loop-i.i c.loop-i-test.false c.loop-i.invariant
    ∙ leaf_node_above _ _ _ _ _ _ _ _ _ _ _ c.if-level-eq0.false here.is_first here.is_count unskipped ∙ home
