-- `brute::is_together` meets its contract. Assumes nothing.
use mathlib.Core.Path.{◌∙◌}
use Prim.Native.Nat.{◌+◌}
use lib.Dec.{eqb}
use Rattle.brute.specs.Brute.{across, together}
use Rattle.brute.proofs.Distances.{brute_back}
use Rattle.brute.proofs.is_together.Goals as goal

pub returns : goal.returns
unfolding together
returns c =
    let e = c in
    let s = e in
    λ i. eqb ((e.across.ensures.0 ∙ (λ j. across (brute_back s.requires.within.0 j) (brute_back s.requires.within_2.0 j))) i + (c.across-2.ensures.0 ∙ (λ j. across (brute_back s.requires.within.1 j) (brute_back s.requires.within_2.1 j))) i) 0
