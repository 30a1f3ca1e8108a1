use mathlib.Core.Path.{◌≡◌, sym, ap, subst, ◌∙◌}
use mathlib.Core.Bool.{false}
use Prim.Native.Nat.{ℕ, ◌+◌, ◌<◌}
use native.Mathlib.Omega.{arith}
use native.Mathlib.Nat.{pos_of_ne-zero}
use lib.Dec.{ltb}
use borrow.Author.Tests.{le-ltb}
use Rattle.plane.specs.Profile.{profile_of, side_in}
use Rattle.sheet.specs.Nodes.{level_of}
use Rattle.sheet.specs.Boxes.{tree_size}
use Rattle.sheet.specs.Places.{box_of}
use Rattle.walk.specs.RingWalk.{clear_at, ring_node}
use Rattle.walk.proofs.NodeLaws.{Node, kid, leaf_fits, box_fits}
use Rattle.walk.proofs.RingCode.{node_far, node_side, node_leaf, node_above, rounds_start, rounds_room, rounds_step, rounds_hit, rounds_end}
use Rattle.walk.proofs.ring.+ring_node.Goals as goal

pub is_far-requires : goal.is_far-requires
is_far-requires t c =
    let p = c.requires in
    (p.0, p.1, box_fits _ _ _ c.args.w.opens _ _ p.2 c.box_at-o.ensures)

pub returns-then-is_far : goal.returns-then-is_far
returns-then-is_far t c =
    node_far _ _ _ _ _ _ _ _ _ (sym (c.is_far.ensures ∙ ap ((profile_of c.args.grid).far c.args.a c.args.b) c.box_at-o.ensures) ∙ c.if-is_far.true)

pub side_inside-side-requires : goal.side_inside-side-requires
side_inside-side-requires t c =
    let p = c.requires in
    (p.0, p.1, box_fits _ _ _ c.args.w.opens _ _ p.2 c.box_at-o.ensures)

pub returns-then-side-lt4 : goal.returns-then-side-lt4
returns-then-side-lt4 t c =
    let near : (profile_of c.args.grid).far c.args.a c.args.b (box_of c.args.w.words.now c.args.w.n c.args.j) ≡ false = sym (c.is_far.ensures ∙ ap ((profile_of c.args.grid).far c.args.a c.args.b) c.box_at-o.ensures) ∙ c.if-is_far.false in
    node_side _ _ _ _ _ _ _ _ _ _ near (c.side_inside-side.ensures ∙ ap (side_in (profile_of c.args.grid) c.args.a c.args.b) c.box_at-o.ensures) c.if-side-lt4.true

pub ring_places-requires : goal.ring_places-requires
ring_places-requires t c =
    let here : Node c.args.w.words.now c.args.w.n c.args.w.m c.args.j c.level_at-level.result c.first_at-first.result c.count_at-count.result = record { table = c.args.w.opens.table; here = c.requires.2; is_level = c.level_at-level.ensures; is_first = c.first_at-first.ensures; is_count = c.count_at-count.ensures } in
    let p = c.requires in
    (p.0, p.1, leaf_fits _ _ _ _ _ _ _ here c.if-level-eq0.true)

pub returns-then-level-eq0 : goal.returns-then-level-eq0
returns-then-level-eq0 t c =
    let here : Node c.args.w.words.now c.args.w.n c.args.w.m c.args.j c.level_at-level.result c.first_at-first.result c.count_at-count.result = record { table = c.args.w.opens.table; here = c.requires.2; is_level = c.level_at-level.ensures; is_first = c.first_at-first.ensures; is_count = c.count_at-count.ensures } in
    let near : (profile_of c.args.grid).far c.args.a c.args.b (box_of c.args.w.words.now c.args.w.n c.args.j) ≡ false = sym (c.is_far.ensures ∙ ap ((profile_of c.args.grid).far c.args.a c.args.b) c.box_at-o.ensures) ∙ c.if-is_far.false in
    let sideless : ltb (side_in (profile_of c.args.grid) c.args.a c.args.b (box_of c.args.w.words.now c.args.w.n c.args.j)) 4 ≡ false = subst (λ (k : ℕ). ltb k 4 ≡ false) (c.side_inside-side.ensures ∙ ap (side_in (profile_of c.args.grid) c.args.a c.args.b) c.box_at-o.ensures) (le-ltb _ 4 c.if-side-lt4.false) in
    let home : ring_node (profile_of c.args.grid) c.args.set c.args.w.words.now c.args.w.n c.args.a c.args.b c.level_at-level.result c.args.j (clear_at c.args.opened) ≡ ring_node (profile_of c.args.grid) c.args.set c.args.w.words.now c.args.w.n c.args.a c.args.b (level_of c.args.w.words.now c.args.w.n c.args.j) c.args.j (clear_at c.args.opened) = ap (λ (l : ℕ). ring_node (profile_of c.args.grid) c.args.set c.args.w.words.now c.args.w.n c.args.a c.args.b l c.args.j (clear_at c.args.opened)) c.level_at-level.ensures in
    c.ring_places.ensures ∙ node_leaf _ _ _ _ _ _ _ _ _ _ _ c.if-level-eq0.true here.is_first here.is_count near sideless ∙ home

pub loop-i-init : goal.loop-i-init
loop-i-init t c =
    let here : Node c.args.w.words.now c.args.w.n c.args.w.m c.args.j c.level_at-level.result c.first_at-first.result c.count_at-count.result = record { table = c.args.w.opens.table; here = c.requires.2; is_level = c.level_at-level.ensures; is_first = c.first_at-first.ensures; is_count = c.count_at-count.ensures } in
    let room : c.args.opened + tree_size c.args.w.words.now c.args.w.n c.level_at-level.result c.args.j < 9223372036854775808 = subst (λ (l : ℕ). c.args.opened + tree_size c.args.w.words.now c.args.w.n l c.args.j < 9223372036854775808) (sym c.level_at-level.ensures) c.requires.3 in
    rounds_start _ _ _ _ _ _ _ _ _ _ _ c.if-level-eq0.false here.is_first here.is_count room

pub overflow_add-first : goal.overflow_add-first
overflow_add-first t c =
    let here : Node c.args.w.words.now c.args.w.n c.args.w.m c.args.j c.level_at-level.result c.first_at-first.result c.count_at-count.result = record { table = c.args.w.opens.table; here = c.requires.2; is_level = c.level_at-level.ensures; is_first = c.first_at-first.ensures; is_count = c.count_at-count.ensures } in
    omega (arith, (kid _ _ _ _ _ _ _ here c.if-level-eq0.false c.loop-i.i c.loop-i-test.true).0, c.args.w.opens.m_le)

pub ring_node-r-requires : goal.ring_node-r-requires
ring_node-r-requires t c =
    let here : Node c.args.w.words.now c.args.w.n c.args.w.m c.args.j c.level_at-level.result c.first_at-first.result c.count_at-count.result = record { table = c.args.w.opens.table; here = c.requires.2; is_level = c.level_at-level.ensures; is_first = c.first_at-first.ensures; is_count = c.count_at-count.ensures } in
    let p = c.requires in
    let z = c.if-level-eq0.false in
    let k = kid _ _ _ _ _ _ _ here z c.loop-i.i c.loop-i-test.true in
    let r = rounds_room _ _ _ _ _ _ _ _ _ _ _ c.loop-i.i c.loop-i-test.true c.loop-i.invariant in (
      omega (arith, k.1, here.is_level, c.decreases, pos_of_ne-zero z),
      (p.0, p.1, k.0, rw k.1 r),
    )

pub returns-then-not-clear_after : goal.returns-then-not-clear_after
returns-then-not-clear_after t c =
    let here : Node c.args.w.words.now c.args.w.n c.args.w.m c.args.j c.level_at-level.result c.first_at-first.result c.count_at-count.result = record { table = c.args.w.opens.table; here = c.requires.2; is_level = c.level_at-level.ensures; is_first = c.first_at-first.ensures; is_count = c.count_at-count.ensures } in
    let near : (profile_of c.args.grid).far c.args.a c.args.b (box_of c.args.w.words.now c.args.w.n c.args.j) ≡ false = sym (c.is_far.ensures ∙ ap ((profile_of c.args.grid).far c.args.a c.args.b) c.box_at-o.ensures) ∙ c.if-is_far.false in
    let sideless : ltb (side_in (profile_of c.args.grid) c.args.a c.args.b (box_of c.args.w.words.now c.args.w.n c.args.j)) 4 ≡ false = subst (λ (k : ℕ). ltb k 4 ≡ false) (c.side_inside-side.ensures ∙ ap (side_in (profile_of c.args.grid) c.args.a c.args.b) c.box_at-o.ensures) (le-ltb _ 4 c.if-side-lt4.false) in
    let home : ring_node (profile_of c.args.grid) c.args.set c.args.w.words.now c.args.w.n c.args.a c.args.b c.level_at-level.result c.args.j (clear_at c.args.opened) ≡ ring_node (profile_of c.args.grid) c.args.set c.args.w.words.now c.args.w.n c.args.a c.args.b (level_of c.args.w.words.now c.args.w.n c.args.j) c.args.j (clear_at c.args.opened) = ap (λ (l : ℕ). ring_node (profile_of c.args.grid) c.args.set c.args.w.words.now c.args.w.n c.args.a c.args.b l c.args.j (clear_at c.args.opened)) c.level_at-level.ensures in
    let z = c.if-level-eq0.false in
    let k = kid _ _ _ _ _ _ _ here z c.loop-i.i c.loop-i-test.true in
    rounds_hit _ _ _ _ _ _ _ _ _ _ _ c.loop-i.i _ c.loop-i-test.true c.loop-i.invariant (rw k.1 at c.ring_node-r.ensures) (sym c.clear_after.ensures ∙ c.if-not-clear_after.true)
    ∙ node_above _ _ _ _ _ _ _ _ _ _ _ z here.is_first here.is_count near sideless ∙ home

pub loop-i-preserved : goal.loop-i-preserved
loop-i-preserved t c =
    let here : Node c.args.w.words.now c.args.w.n c.args.w.m c.args.j c.level_at-level.result c.first_at-first.result c.count_at-count.result = record { table = c.args.w.opens.table; here = c.requires.2; is_level = c.level_at-level.ensures; is_first = c.first_at-first.ensures; is_count = c.count_at-count.ensures } in
    let z = c.if-level-eq0.false in
    let k = kid _ _ _ _ _ _ _ here z c.loop-i.i c.loop-i-test.true in
    rounds_step _ _ _ _ _ _ _ _ _ _ _ c.loop-i.i _ c.loop-i-test.true c.loop-i.invariant (rw k.1 at c.ring_node-r.ensures) (sym c.clear_after.ensures ∙ c.if-not-clear_after.false)

pub returns : goal.returns
returns t c =
    let here : Node c.args.w.words.now c.args.w.n c.args.w.m c.args.j c.level_at-level.result c.first_at-first.result c.count_at-count.result = record { table = c.args.w.opens.table; here = c.requires.2; is_level = c.level_at-level.ensures; is_first = c.first_at-first.ensures; is_count = c.count_at-count.ensures } in
    let near : (profile_of c.args.grid).far c.args.a c.args.b (box_of c.args.w.words.now c.args.w.n c.args.j) ≡ false = sym (c.is_far.ensures ∙ ap ((profile_of c.args.grid).far c.args.a c.args.b) c.box_at-o.ensures) ∙ c.if-is_far.false in
    let sideless : ltb (side_in (profile_of c.args.grid) c.args.a c.args.b (box_of c.args.w.words.now c.args.w.n c.args.j)) 4 ≡ false = subst (λ (k : ℕ). ltb k 4 ≡ false) (c.side_inside-side.ensures ∙ ap (side_in (profile_of c.args.grid) c.args.a c.args.b) c.box_at-o.ensures) (le-ltb _ 4 c.if-side-lt4.false) in
    let home : ring_node (profile_of c.args.grid) c.args.set c.args.w.words.now c.args.w.n c.args.a c.args.b c.level_at-level.result c.args.j (clear_at c.args.opened) ≡ ring_node (profile_of c.args.grid) c.args.set c.args.w.words.now c.args.w.n c.args.a c.args.b (level_of c.args.w.words.now c.args.w.n c.args.j) c.args.j (clear_at c.args.opened) = ap (λ (l : ℕ). ring_node (profile_of c.args.grid) c.args.set c.args.w.words.now c.args.w.n c.args.a c.args.b l c.args.j (clear_at c.args.opened)) c.level_at-level.ensures in
    rounds_end _ _ _ _ _ _ _ _ _ _ _ c.loop-i.i c.loop-i-test.false c.loop-i.invariant
    ∙ node_above _ _ _ _ _ _ _ _ _ _ _ c.if-level-eq0.false here.is_first here.is_count near sideless ∙ home
