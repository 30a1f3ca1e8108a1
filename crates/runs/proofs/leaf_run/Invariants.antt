-- `runs::leaf_run` meets its contract: after k turns the first k pairs of the leaf stand in the first slots, and with an answer those from k on are still to be read from the lent words.
-- Assumes nothing.
use mathlib.Core.Path.{◌≡◌}
use Prim.Native.Nat.{◌≤◌}
use lib.ListN.{drop}
use Rattle.leaf.specs.LeafRun.{leaf_list}
use Rattle.runs.specs.Ready.{run_left}
use Rattle.runs.proofs.WriteLaws.{written}
use Rattle.runs.proofs.leaf_run.Given as goal

abbrev pub invariant-loop-k : goal.invariant-loop-k
invariant-loop-k l =
    (l.k ≤ l.r.count)
    × (l.slots ≡ written l.fn.slots (leaf_list l.p l.q l.leaf) l.k)
    × (l.r.number ≡ 0 → run_left l.p l.q l.leaf l.bits l.at ≡ drop l.k (leaf_list l.p l.q l.leaf))
