-- `pack::tree::size_for` meets its contract. Assumes nothing.
use native.Mathlib.Omega.{arith}
use Rattle.pack.specs.Packed.{sheet_size}
use Rattle.pack.proofs.TableLaws.{plan_few}
use Rattle.pack.proofs.tree.size_for.Goals as goal

pub overflow_mul-result-2 : goal.overflow_mul-result-2
overflow_mul-result-2 c = omega (arith, c.nodes_for.ensures, plan_few c.args.n, c.requires)

pub overflow_add-result : goal.overflow_add-result
overflow_add-result c = omega (arith, c.nodes_for.ensures, plan_few c.args.n, c.requires)

pub overflow_add-result-2 : goal.overflow_add-result-2
overflow_add-result-2 c = omega (arith, c.nodes_for.ensures, plan_few c.args.n, c.requires)

pub returns : goal.returns
unfolding sheet_size
returns c = omega (arith, c.nodes_for.ensures)
