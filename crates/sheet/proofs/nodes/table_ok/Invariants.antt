use mathlib.Core.Path.{◌≡◌}
use mathlib.Core.Bool.{true}
use Rattle.words.specs.All.{all_b}
use Rattle.sheet.specs.Nodes.{node_ok, due_of}
use Rattle.sheet.proofs.nodes.table_ok.Given as goal

abbrev pub invariant-loop-j : goal.invariant-loop-j
invariant-loop-j l = (l.d ≡ due_of l.s l.n l.j) × (all_b l.j (node_ok l.s l.n l.m) ≡ true)
