-- `walk::filter::seek` meets its contract: the one that dropped last is found where it drops; else the list is searched from its end down, or the set, where the
-- list does not have all. The loop's invariant is `Asked`: none of those from k on drops. Assumes nothing.
use mathlib.Core.Bool.{Bool}
use mathlib.Core.List.{List}
use Prim.Native.Nat.{ℕ}
use lib.IntN.{ℤ}
use Rattle.plane.specs.declared.Spot.{Spot}
use Rattle.plane.specs.declared.Boxed.{Boxed}
use Rattle.plane.specs.Rule.{drops_box}
use Rattle.sheet.specs.Places.{spot_of}
use Rattle.walk.proofs.LatestLaws.{Asked}
use Rattle.walk.proofs.filter.seek.Given as goal

-- what is asked of a kept position
abbrev pub drops_at : List ℤ → Spot → Boxed → ℕ → Bool
drops_at w q o i = drops_box q (spot_of w i) o

abbrev pub invariant-loop-k : goal.invariant-loop-k
invariant-loop-k g l = Asked l.latest (drops_at l.w.words.now l.fn.q l.fn.o) l.fn.line.count l.k
