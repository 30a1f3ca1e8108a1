use native.Mathlib.Omega.{arith}
use Rattle.sheet.proofs.NodeLaws.{run_level}
use Rattle.sheet.proofs.ReadLaws.{run_nat}
use Rattle.sheet.specs.Nodes.{due_next}
use Rattle.sheet.proofs.nodes.due_next.Goals as goal

pub run_end-next-requires : goal.run_end-next-requires
run_end-next-requires c = let f = run_nat _ _ _ _ c.requires.3 in (omega arith, omega arith, omega arith, f.1, f.2)

pub returns-then-same_level : goal.returns-then-same_level
unfolding due_next
returns-then-same_level c = rw (← c.same_level.ensures, c.if-same_level.true, ← c.run_end-next.ensures)

pub overflow_add-result : goal.overflow_add-result
overflow_add-result c = omega (arith, run_level _ _ _ _ c.requires.3)

pub returns : goal.returns
unfolding due_next
returns c = rw (← c.same_level.ensures, c.if-same_level.false)
