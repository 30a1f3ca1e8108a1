use mathlib.Core.Path.{refl, ◌∙◌}
use mathlib.Core.Logic.{inr}
use native.Mathlib.Omega.{arith}
use native.Mathlib.Nat.{pos_of_ne-zero}
use Rattle.walk.proofs.NodeLaws.{kid, leaf_fits}
use Rattle.walk.proofs.FilterCode.{still_holds}
use Rattle.seeds.proofs.LineLaws.{line_after, known_in}
use Rattle.seeds.proofs.CoverLaws.{below_leaf, below_node, deals_as, deals_kid, deals_box, node_read}
use Rattle.seeds.proofs.walks.+walk_node.Goals as goal
use Rattle.seeds.proofs.walks.+walk_node.Goals.{then-by-so, else-by-so}

pub walk_places-requires : goal.walk_places-requires
walk_places-requires t c =
    let here = node_read c.args.w.opens c.requires.1 c.level_at-level.ensures c.first_at-first.ensures c.count_at-count.ensures in
    (c.requires.0, leaf_fits _ _ _ _ _ _ _ here c.if-level-eq0.true, c.requires.2)

pub returns-then-level-eq0 : goal.returns-then-level-eq0
returns-then-level-eq0 t c =
    let here = node_read c.args.w.opens c.requires.1 c.level_at-level.ensures c.first_at-first.ensures c.count_at-count.ensures in
    (c.walk_places.ensures.0, deals_as _ _ _ _ _ _ _ _ (below_leaf _ _ _ _ _ _ _ here c.if-level-eq0.true) c.walk_places.ensures.1)

pub overflow_add-first : goal.overflow_add-first
overflow_add-first t c =
    let here = node_read c.args.w.opens c.requires.1 c.level_at-level.ensures c.first_at-first.ensures c.count_at-count.ensures in
    omega (arith, (kid _ _ _ _ _ _ _ here c.if-level-eq0.false c.loop-i.i c.loop-i-test.true).0, c.args.w.opens.m_le)

pub box_by-by-requires : goal.box_by-by-requires
box_by-by-requires t c =
    let here = node_read c.args.w.opens c.requires.1 c.level_at-level.ensures c.first_at-first.ensures c.count_at-count.ensures in
    (c.requires.0, (kid _ _ _ _ _ _ _ here c.if-level-eq0.false c.loop-i.i c.loop-i-test.true).0)

pub overflow_add-first-else-by-so : goal.overflow_add-first-else-by-so
overflow_add-first-else-by-so t c =
    let here = node_read c.args.w.opens c.requires.1 c.level_at-level.ensures c.first_at-first.ensures c.count_at-count.ensures in
    omega (arith, (kid _ _ _ _ _ _ _ here c.if-level-eq0.false c.loop-i.i c.loop-i-test.true).0, c.args.w.opens.m_le)

pub walk_node-requires : goal.walk_node-requires
walk_node-requires t c =
    let here = node_read c.args.w.opens c.requires.1 c.level_at-level.ensures c.first_at-first.ensures c.count_at-count.ensures in
    let z = c.if-level-eq0.false in
    let k = kid _ _ _ _ _ _ _ here z c.loop-i.i c.loop-i-test.true in (
      omega (arith, k.1, here.is_level, c.decreases, pos_of_ne-zero z),
      (c.requires.0, k.0, still_holds _ _ _ c.loop-i.invariant.2 c.requires.2),
    )

pub loop-i-preserved : goal.loop-i-preserved
loop-i-preserved t c =
    let here = node_read c.args.w.opens c.requires.1 c.level_at-level.ensures c.first_at-first.ensures c.count_at-count.ensures in
    let v = c.loop-i.invariant in
    let k = kid _ _ _ _ _ _ _ here c.if-level-eq0.false c.loop-i.i c.loop-i-test.true in
    elim c.if-by-so.branch [
      | then-by-so x ↦ rw (x.bits-is, x.so-is) (
        record { each = v.0.each },
        deals_kid _ _ _ _ _ _ _ _ _ _ _ k.1 (λ y e. e) v.1 (deals_box _ _ _ _ _ c.args.w.opens _ k.0 _ refl _ (v.0.each _ x.if-by-so.true) (c.box_by-by.ensures.holds x.if-by-so.true) _),
        v.2,
      )
      | else-by-so x ↦ rw (x.bits-is, x.so-is) (
        line_after _ _ _ _ _ (λ y e. e) v.0 x.walk_node.ensures.0,
        deals_kid _ _ _ _ _ _ _ _ _ _ _ k.1 (known_in _ _ v.0 _ (λ y e. inr e)) v.1 x.walk_node.ensures.1,
        x.walk_node.auto.bits ∙ v.2,
      )
    ]

pub returns : goal.returns
returns t c =
    let here = node_read c.args.w.opens c.requires.1 c.level_at-level.ensures c.first_at-first.ensures c.count_at-count.ensures in
    let v = c.loop-i.invariant in
    (v.0, deals_as _ _ _ _ _ _ _ _ (λ r x. let y = below_node _ _ _ _ _ _ _ here c.if-level-eq0.false r x in (y.0, y.1, omega (arith, y.2, c.loop-i-test.false), y.3)) v.1)
