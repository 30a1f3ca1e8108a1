-- `walk::filter::seek_all` meets its contract. The loop's invariant is `Seek`: the words before k are asked. Assumes nothing.
use mathlib.Core.Bool.{Bool}
use mathlib.Core.List.{List}
use Prim.Native.Nat.{ℕ}
use lib.IntN.{ℤ}
use Rattle.plane.specs.declared.Spot.{Spot}
use Rattle.plane.specs.declared.Boxed.{Boxed}
use Rattle.plane.specs.Rule.{drops_box}
use Rattle.sheet.specs.Places.{spot_of}
use Rattle.bits.proofs.SomeLaws.{Seek}
use Rattle.walk.proofs.filter.seek_all.Given as goal

-- what is asked of a kept position
abbrev pub test : List ℤ → Spot → Boxed → ℕ → Bool
test w q o i = drops_box q (spot_of w i) o

abbrev pub invariant-loop-k : goal.invariant-loop-k
invariant-loop-k l = Seek l.bits (test l.w.words.now l.q l.o) l.w.n l.k
