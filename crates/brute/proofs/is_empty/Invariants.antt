-- `brute::is_empty` meets its contract. Assumes nothing.
use mathlib.Core.Path.{◌≡◌}
use mathlib.Core.Bool.{true}
use Rattle.words.specs.All.{all_b}
use Rattle.brute.specs.Brute.{place_at, clear}
use Rattle.brute.proofs.is_empty.Given as goal

abbrev pub invariant-loop-k : goal.invariant-loop-k
invariant-loop-k l = all_b l.k (λ i. clear l.grid l.a l.b (place_at l.s i)) ≡ true
