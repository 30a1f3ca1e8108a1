use mathlib.Core.Path.{ap}
use mathlib.Core.Bool.{not}
use native.Mathlib.Omega.{arith}
use native.Mathlib.Nat.{pos_of_ne-zero}
use Rattle.plane.proofs.ProfileLaws.{profile_lawful}
use Rattle.walk.proofs.NodeLaws.{Node, kid, leaf_fits}
use Rattle.seeds.proofs.CoverLaws.{below_leaf, below_node}
use Rattle.chamber.proofs.ClearLaws.{tells_yes, tells_met, tells_as, clears_as, clears_none, clears_walked, clears_far}
use Rattle.chamber.proofs.clear.+clear_below.Goals as goal
use Rattle.chamber.proofs.clear.+clear_below.Goals.{then-not-far_at+else-not-clear_below, else-not-far_at}

pub clear_places-requires : goal.clear_places-requires
clear_places-requires t c =
    let here : Node c.args.w.words.now c.args.w.n c.args.w.m c.args.j c.level_at-level.result c.first_at-first.result c.count_at-count.result = record { table = c.args.w.opens.table; here = c.requires.2; is_level = c.level_at-level.ensures; is_first = c.first_at-first.ensures; is_count = c.count_at-count.ensures } in
    let p = c.requires in
    (p.0, p.1, leaf_fits _ _ _ _ _ _ _ here c.if-level-eq0.true)

pub returns-then-level-eq0 : goal.returns-then-level-eq0
returns-then-level-eq0 t c =
    let here : Node c.args.w.words.now c.args.w.n c.args.w.m c.args.j c.level_at-level.result c.first_at-first.result c.count_at-count.result = record { table = c.args.w.opens.table; here = c.requires.2; is_level = c.level_at-level.ensures; is_first = c.first_at-first.ensures; is_count = c.count_at-count.ensures } in
    tells_as _ _ _ _ _ _ _ _ (below_leaf _ _ _ _ _ _ _ here c.if-level-eq0.true) c.clear_places.ensures

pub loop-i-init : goal.loop-i-init
loop-i-init t c =
    clears_none _ _ _ _ _ _ (λ k x. omega (arith, x.1, x.2))

pub overflow_add-first : goal.overflow_add-first
overflow_add-first t c =
    let here : Node c.args.w.words.now c.args.w.n c.args.w.m c.args.j c.level_at-level.result c.first_at-first.result c.count_at-count.result = record { table = c.args.w.opens.table; here = c.requires.2; is_level = c.level_at-level.ensures; is_first = c.first_at-first.ensures; is_count = c.count_at-count.ensures } in
    let k = kid _ _ _ _ _ _ _ here c.if-level-eq0.false c.loop-i.i c.loop-i-test.true in
    omega (arith, k.0, c.args.w.opens.m_le)

pub far_at-requires : goal.far_at-requires
far_at-requires t c =
    let here : Node c.args.w.words.now c.args.w.n c.args.w.m c.args.j c.level_at-level.result c.first_at-first.result c.count_at-count.result = record { table = c.args.w.opens.table; here = c.requires.2; is_level = c.level_at-level.ensures; is_first = c.first_at-first.ensures; is_count = c.count_at-count.ensures } in
    let p = c.requires in
    let k = kid _ _ _ _ _ _ _ here c.if-level-eq0.false c.loop-i.i c.loop-i-test.true in
    (p.0, p.1, k.0)

pub overflow_add-first-then-not-far_at : goal.overflow_add-first-then-not-far_at
overflow_add-first-then-not-far_at t c =
    let here : Node c.args.w.words.now c.args.w.n c.args.w.m c.args.j c.level_at-level.result c.first_at-first.result c.count_at-count.result = record { table = c.args.w.opens.table; here = c.requires.2; is_level = c.level_at-level.ensures; is_first = c.first_at-first.ensures; is_count = c.count_at-count.ensures } in
    let k = kid _ _ _ _ _ _ _ here c.if-level-eq0.false c.loop-i.i c.loop-i-test.true in
    omega (arith, k.0, c.args.w.opens.m_le)

pub clear_below-requires : goal.clear_below-requires
clear_below-requires t c =
    let here : Node c.args.w.words.now c.args.w.n c.args.w.m c.args.j c.level_at-level.result c.first_at-first.result c.count_at-count.result = record { table = c.args.w.opens.table; here = c.requires.2; is_level = c.level_at-level.ensures; is_first = c.first_at-first.ensures; is_count = c.count_at-count.ensures } in
    let p = c.requires in
    let k = kid _ _ _ _ _ _ _ here c.if-level-eq0.false c.loop-i.i c.loop-i-test.true in
    (omega (arith, k.1, here.is_level, c.decreases, pos_of_ne-zero c.if-level-eq0.false), (p.0, p.1, k.0))

pub returns-then-not-clear_below : goal.returns-then-not-clear_below
returns-then-not-clear_below t c =
    tells_met _ _ _ _ _ _ _ _ c.clear_below.ensures (ap not c.if-not-clear_below.true)

pub loop-i-preserved : goal.loop-i-preserved
loop-i-preserved t c =
    let here : Node c.args.w.words.now c.args.w.n c.args.w.m c.args.j c.level_at-level.result c.first_at-first.result c.count_at-count.result = record { table = c.args.w.opens.table; here = c.requires.2; is_level = c.level_at-level.ensures; is_first = c.first_at-first.ensures; is_count = c.count_at-count.ensures } in
    let k = kid _ _ _ _ _ _ _ here c.if-level-eq0.false c.loop-i.i c.loop-i-test.true in
    elim c.if-not-far_at.branch [
      | then-not-far_at+else-not-clear_below x ↦ clears_walked _ _ _ _ _ _ _ _ _ k.1 c.loop-i.invariant x.clear_below.ensures (ap not x.if-not-clear_below.false)
      | else-not-far_at x ↦ clears_far _ _ _ _ _ (profile_lawful c.args.grid) _ c.args.w.opens _ _ _ _ k.0 k.1 c.loop-i.invariant c.far_at.ensures (ap not x.if-not-far_at.false)
    ]

pub returns : goal.returns
returns t c =
    let here : Node c.args.w.words.now c.args.w.n c.args.w.m c.args.j c.level_at-level.result c.first_at-first.result c.count_at-count.result = record { table = c.args.w.opens.table; here = c.requires.2; is_level = c.level_at-level.ensures; is_first = c.first_at-first.ensures; is_count = c.count_at-count.ensures } in
    tells_yes _ _ _ _ _ _ (clears_as _ _ _ _ _ _ _ (λ r x. let y = below_node _ _ _ _ _ _ _ here c.if-level-eq0.false r x in (y.0, y.1, omega (arith, y.2, c.loop-i-test.false), y.3)) c.loop-i.invariant)
