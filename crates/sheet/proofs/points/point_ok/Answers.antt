use mir.Syntax.{w32}
use mir.ValLaws.{to_z-of_z}
use Rattle.sheet.specs.Points.{point_is}
use Rattle.sheet.proofs.points.point_ok.Goals as goal

pub returns : goal.returns
unfolding point_is
returns c =
    let t = c in
    let s = t in
    cc (
      to_z-of_z w32 s.args.lim.coordinate (record { sfits = t.struct_told-1.given.1.1.1.0.1 }),
      to_z-of_z w32 _ s.ranges.last,
      to_z-of_z w32 _ s.ranges.id,
      to_z-of_z w32 _ s.ranges.x,
      to_z-of_z w32 _ s.ranges.y,
    )
