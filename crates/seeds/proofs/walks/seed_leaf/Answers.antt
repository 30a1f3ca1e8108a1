-- `seeds::walks::seed_leaf` meets its contract. Assumes nothing.
use native.Mathlib.Omega.{arith}
use Rattle.walk.proofs.NodeLaws.{leaf_fits}
use Rattle.seeds.proofs.CoverLaws.{node_read}
use Rattle.seeds.proofs.walks.seed_leaf.Goals as goal

pub seed_places-requires : goal.seed_places-requires
seed_places-requires c =
    let node = node_read c.args.w.opens c.requires.1 c.level_at-level.ensures c.first_at-first.ensures c.count_at-count.ensures in
    (c.requires.0, leaf_fits _ _ _ _ _ _ _ node (omega (arith, c.if-level-gt0.false)))
