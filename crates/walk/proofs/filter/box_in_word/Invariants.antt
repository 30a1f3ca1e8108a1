-- `walk::filter::box_in_word` meets its contract. The loop's invariant is `Sift`: what is left of the word. Assumes nothing.
use mathlib.Core.Bool.{Bool}
use mathlib.Core.List.{List}
use Prim.Native.Nat.{ℕ}
use lib.IntN.{ℤ}
use Rattle.plane.specs.declared.Spot.{Spot}
use Rattle.plane.specs.declared.Boxed.{Boxed}
use Rattle.plane.specs.Rule.{drops_box}
use Rattle.sheet.specs.Places.{spot_of}
use Rattle.bits.proofs.SomeLaws.{Sift}
use Rattle.walk.proofs.filter.box_in_word.Given as goal

-- what is asked of a kept position
abbrev pub test : List ℤ → Spot → Boxed → ℕ → Bool
test w q o i = drops_box q (spot_of w i) o

abbrev pub invariant-loop-rest : goal.invariant-loop-rest
invariant-loop-rest l = Sift l.bits (test l.w.words.now l.q l.o) l.w.n l.k l.rest

abbrev pub decreases-loop-rest : goal.decreases-loop-rest
decreases-loop-rest l = l.rest
