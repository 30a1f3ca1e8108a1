-- A coordinate, read back from its bits. Assumes nothing.
use mathlib.Core.Path.{◌≡◌}
use lib.IntN.{ℤ}
use mir.Syntax.{w64}
use mir.Val.{to_z, of_z}
use mir.Facts.{to_z-of_z}
use Rattle.integers.specs.Bounds.{Within}
use Rattle.integers.proofs.Order.{sfits_in}

pub plane_back : {z : ℤ} → Within 1_000_000_000 z → to_z w64 (of_z w64 z) ≡ z
plane_back w = to_z-of_z (sfits_in {w = w64} w tt)
