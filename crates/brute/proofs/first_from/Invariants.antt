-- `brute::first_from` meets its contract. Assumes nothing.
use mathlib.Core.Path.{◌≡◌}
use mathlib.Core.Bool.{false}
use Prim.Native.Nat.{ℕ, ◌≤◌, ◌<◌}
use Rattle.brute.specs.Brute.{pairs}
use Rattle.brute.proofs.first_from.Given as goal

abbrev pub invariant-loop-k : goal.invariant-loop-k
invariant-loop-k l = (m : ℕ) → l.i ≤ m → m < l.k → pairs l.grid l.p l.q l.j m ≡ false
