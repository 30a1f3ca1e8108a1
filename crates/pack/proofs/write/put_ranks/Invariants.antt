use mathlib.Core.Path.{◌≡◌}
use mathlib.Core.List.{List}
use Prim.Native.Nat.{◌*◌}
use lib.IntN.{ℤ}
use lib.ListN.{length}
use Rattle.pack.specs.Packed.{body_word}
use Rattle.pack.specs.Work.{Holds}
use Rattle.pack.proofs.PackedLaws.{Ranked}
use Rattle.pack.proofs.write.put_ranks.Given as goal

abbrev pub invariant-loop-k : goal.invariant-loop-k
invariant-loop-k l = (length l.out ≡ length l.initial.out) × ((p : List ℤ) → Holds l.initial.out (body_word p l.o l.n) (4 * l.n) → Ranked p l.o l.n (length l.initial.out) l.out l.k)
