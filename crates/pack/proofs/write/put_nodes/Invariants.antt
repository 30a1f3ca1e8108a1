use mathlib.Core.Path.{◌≡◌}
use mathlib.Core.Bool.{true}
use mathlib.Core.List.{List}
use Prim.Native.Nat.{◌<◌, ◌*◌, ◌+◌}
use lib.IntN.{ℤ}
use lib.ListN.{length}
use Rattle.pack.specs.Tree.{plan_of}
use Rattle.pack.specs.Order.{order_list_ok}
use Rattle.pack.specs.Packed.{body_word}
use Rattle.pack.specs.Work.{Holds}
use Rattle.pack.proofs.write.put_nodes.Given as goal

abbrev pub invariant-loop-j : goal.invariant-loop-j
invariant-loop-j l = (length l.out ≡ length l.initial.out) × (l.j < l.m → l.d ≡ plan_of l.n l.j) × ((p o : List ℤ) → order_list_ok o l.n ≡ true → Holds l.initial.out (body_word p o l.n) (5 * l.n) → Holds l.out (body_word p o l.n) (5 * l.n + 7 * l.j))
