-- `brute::is_held` meets its contract. Assumes nothing.
use mathlib.Core.Path.{◌∙◌}
use Rattle.brute.specs.Brute.{fences, holds}
use Rattle.brute.proofs.is_held.Goals as goal

pub returns-then-grid : goal.returns-then-grid
unfolding holds
returns-then-grid c =
    let z = c in
    let b = z in
    let a = b in
    rw a.if-grid.true (c.is_fenced.ensures ∙ (λ i. fences (a.turn.ensures.value i) (b.turn-then-grid.ensures.value i) (z.turn-then-grid-2.ensures.value i)))

pub returns : goal.returns
unfolding holds
returns c = rw c.if-grid.false c.is_covered.ensures
