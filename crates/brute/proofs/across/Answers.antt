-- `brute::across` meets its contract. Assumes nothing.
use mathlib.Core.Path.{◌≡◌, ◌∙◌}
use Prim.Native.Nat.{◌*◌}
use native.Mathlib.Omega.{arith}
use lib.IntN.{nat_abs, ◌-ℤ◌}
use Rattle.integers.proofs.Order.{in--}
use Rattle.brute.proofs.Distances.{square_le, brute_back}
use Rattle.brute.proofs.across.Goals as goal

pub returns : goal.returns
returns c =
    let said : c.gap-d.result ≡ nat_abs (c.args.a -ℤ c.args.b) = c.gap-d.ensures ∙ (λ i. nat_abs (brute_back c.requires.0 i -ℤ brute_back c.requires.1 i)) in
    let e : c.gap-d.result * c.gap-d.result ≡ nat_abs (c.args.a -ℤ c.args.b) * nat_abs (c.args.a -ℤ c.args.b) = λ i. said i * said i in
    (e, omega (arith, e, square_le (in-- c.requires.0 c.requires.1).abs))
