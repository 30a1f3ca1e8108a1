use native.Mathlib.Omega.{arith}
use Rattle.pack.specs.Tree.{up16}
use Rattle.pack.proofs.tree.up16.Goals as goal

pub returns : goal.returns
unfolding up16
returns c = omega (arith, c.div_ceil.ensures)
