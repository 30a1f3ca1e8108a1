-- `seeds::walks::box_by` meets its contract. Assumes nothing.
use Rattle.std.proofs.Common.{rules}
use Rattle.plane.specs.Rule.{BoxIn}
use Rattle.walk.proofs.NodeLaws.{box_fits}
use Rattle.seeds.proofs.walks.box_by.Goals as goal

pub dropper-requires : goal.dropper-requires
dropper-requires c =
    let o : BoxIn c.box_at-o.result = box_fits _ _ _ c.args.w.opens _ _ c.requires.1 c.box_at-o.ensures in
    search rules
