-- `marker::sum` meets its contract. Assumes nothing.
use mir.Syntax.{w64}
use mir.Facts.{to_z-of_z}
use Rattle.integers.proofs.Order.{sfits_in}
use Rattle.integers.proofs.Cast.{wide_is}
use Rattle.marker.proofs.Coordinates.{sum_in}
use Rattle.marker.proofs.sum.Goals as goal

pub returns : goal.returns
returns c =
    let m = sum_in _ _ c.requires.a_value c.requires.b_value in
    (rw (wide_is c.ranges.a, wide_is c.ranges.b) (to_z-of_z {w = w64} (sfits_in m tt)), m)
