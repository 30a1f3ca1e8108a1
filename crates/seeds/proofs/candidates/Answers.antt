-- `seeds::candidates` meets its contract: `covers_walk` says why. Assumes nothing.
use mathlib.Core.Path.{◌∙◌}
use native.Mathlib.Omega.{arith}
use native.Mathlib.Nat.{pos_of_ne-zero}
use Rattle.walk.proofs.NodeLaws.{spot_fits}
use Rattle.walk.proofs.FilterCode.{still_holds}
use Rattle.seeds.proofs.CoverLaws.{covers_walk, covers_profile}
use Rattle.seeds.proofs.candidates.Goals as goal

pub first_line-requires : goal.first_line-requires
first_line-requires c = (pos_of_ne-zero c.if-p-eq0.false, c.requires.0, spot_fits _ _ _ c.args.q.opens _ _ c.requires.0 c.spot_at-z.ensures, c.new-so.ensures)

pub walk_node-requires : goal.walk_node-requires
walk_node-requires c =
    (spot_fits _ _ _ c.args.q.opens _ _ c.requires.0 c.spot_at-z.ensures, omega (arith, pos_of_ne-zero c.if-p-eq0.false), still_holds _ _ _ c.clear.auto.bits c.requires.1)

pub try_again-requires : goal.try_again-requires
try_again-requires c =
    (spot_fits _ _ _ c.args.q.opens _ _ c.requires.0 c.spot_at-z.ensures, still_holds _ _ _ (c.walk_node.auto.bits ∙ c.clear.auto.bits) c.requires.1)

pub returns : goal.returns
returns c =
    covers_profile _ _ _ _ _ c.if-grid.false
    (covers_walk _ _ _ c.args.p.opens _ _ _ c.args.q.opens _ c.requires.0 _ c.spot_at-z.ensures _ c.first_line.ensures _ _ _ c.if-p-eq0.false c.walk_node.ensures.1 _ c.walk_node.ensures.0 c.try_again.ensures)
