-- `brute::most` meets its contract. Assumes nothing.
use mathlib.Core.Path.{◌≡◌, ◌∙◌}
use native.Mathlib.Omega.{arith}
use lib.IntN.{nat_abs, ◌-ℤ◌}
use Rattle.integers.proofs.Order.{in--}
use Rattle.brute.proofs.Distances.{turned_back, most_is}
use Rattle.brute.proofs.most.Goals as goal

pub returns : goal.returns
returns c =
    let eu : c.gap.result ≡ nat_abs (c.args.a.x -ℤ c.args.b.x) = c.gap.ensures ∙ (λ i. nat_abs (turned_back c.requires.within.0 i -ℤ turned_back c.requires.within_2.0 i)) in
    let ev : c.gap-2.result ≡ nat_abs (c.args.a.y -ℤ c.args.b.y) = c.gap-2.ensures ∙ (λ i. nat_abs (turned_back c.requires.within.1 i -ℤ turned_back c.requires.within_2.1 i)) in
    (c.max.ensures ∙ most_is c.args.a c.args.b eu ev, omega (arith, eu, ev, (in-- c.requires.within.0 c.requires.within_2.0).abs, (in-- c.requires.within.1 c.requires.within_2.1).abs))
