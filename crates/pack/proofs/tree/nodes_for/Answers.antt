use mathlib.Core.Path.{sym, subst}
use Prim.Native.Nat.{ℕ}
use native.Mathlib.Omega.{arith}
use Rattle.pack.specs.Tree.{up16}
use Rattle.pack.proofs.PlanLaws.{Counted, counted_start, counted_more, counted_done, counted_le}
use Rattle.pack.proofs.TableLaws.{plan_few}
use Rattle.pack.proofs.tree.nodes_for.Goals as goal

pub loop-k-init : goal.loop-k-init
unfolding up16
loop-k-init c = (omega (arith, c.up16-k.ensures), subst (λ (k : ℕ). Counted c.args.n k k) (sym c.up16-k.ensures) (counted_start _))

pub overflow_add-m : goal.overflow_add-m
overflow_add-m c = omega (arith, c.up16-k-in-loop-k.ensures, counted_le _ _ _ (counted_more _ _ _ c.loop-k-test.true c.loop-k.invariant.1), plan_few c.args.n)

pub loop-k-smaller : goal.loop-k-smaller
unfolding up16
loop-k-smaller c = omega (arith, c.up16-k-in-loop-k.ensures)

pub loop-k-preserved : goal.loop-k-preserved
unfolding up16
loop-k-preserved c = (omega (arith, c.up16-k-in-loop-k.ensures), rw c.up16-k-in-loop-k.ensures (counted_more _ _ _ c.loop-k-test.true c.loop-k.invariant.1))

pub returns : goal.returns
returns c = counted_done _ _ _ c.loop-k-test.false c.loop-k.invariant.1
