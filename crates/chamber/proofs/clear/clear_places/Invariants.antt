-- `chamber::clear::clear_places` meets its contract: after i turns none of the first i places has a record that blocks. Assumes nothing.
use Prim.Native.Nat.{◌+◌, ◌≤◌, ◌<◌}
use Rattle.plane.specs.Profile.{profile_of}
use Rattle.chamber.specs.Clear.{Clears}
use Rattle.chamber.proofs.clear.clear_places.Given as goal

abbrev pub invariant-loop-i : goal.invariant-loop-i
invariant-loop-i l = Clears (profile_of l.grid) l.w.words.now l.w.n l.a l.b (λ k. (l.first ≤ k) × (k < l.first + l.i)) × (l.i ≤ l.count)
