-- `walk::filter::drops_spot` meets its contract: a place is a box of no extent. Assumes nothing.
use Rattle.std.proofs.Common.{rules}
use Rattle.plane.specs.Rule.{BoxIn, drops}
use Rattle.plane.proofs.RuleLaws.{point_box}
use Rattle.walk.proofs.filter.drops_spot.Goals as goal

pub seek-requires : goal.seek-requires
unfolding drops
seek-requires c =
    let o : BoxIn c.box_at-o.result = search rules in
    (c.requires.0, o, c.requires.2, c.requires.3, record { may = λ p h. search rules; says = λ p t h e. let b = point_box c.args.q p c.args.z in search rules })
