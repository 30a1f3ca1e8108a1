-- `plane::is_inside` meets its contract. Assumes nothing.
use mathlib.Core.Path.{ap}
use lib.IntN.{ℤ, pos}
use lib.Signed.{lt_z}
use Rattle.integers.proofs.Cast.{result_is}
use Rattle.plane.specs.Rule.{inside}
use Rattle.plane.proofs.is_inside.Goals as goal

pub returns : goal.returns
unfolding inside
returns c = ap (λ (z : ℤ). lt_z z (pos 0)) (result_is c.dot_of.type_inv c.dot_of.ensures)
