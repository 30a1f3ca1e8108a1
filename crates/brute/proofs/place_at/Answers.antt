-- `brute::place_at` meets its contract. Assumes nothing.
use Rattle.brute.specs.Brute.{place_at}
use Rattle.brute.proofs.Distances.{clipped_is}
use Rattle.brute.proofs.place_at.Goals as goal

pub returns-clause-value : goal.returns-clause-value
unfolding place_at
returns-clause-value c =
    let x = c in
    let ex = clipped_is _ x.clipped-arg-1.given x.clipped.type_inv x.clipped.ensures.0 in
    let ey = clipped_is _ c.clipped-arg-2-1.given c.clipped-2.type_inv c.clipped-2.ensures.0 in
    (λ i. record { x = ex i; y = ey i })
