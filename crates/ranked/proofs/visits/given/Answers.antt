-- `ranked::visits::given` meets its contract. Assumes nothing.
use mathlib.Core.Path.{ap, ◌∙◌}
use native.Mathlib.Omega.{arith}
use Rattle.bits.specs.Set.{none}
use Rattle.bits.proofs.LentLaws.{lent_holds}
use Rattle.ranked.proofs.VisitsLaws.{urgent_made}
use Rattle.ranked.proofs.visits.given.Goals as goal

pub of_all-g-requires : goal.of_all-g-requires
of_all-g-requires c =
    (c.requires.0, lent_holds _ _ (omega (arith, c.args.p.opens.n_le)) c.requires.1, c.requires.2, c.requires.3, c.requires.4, c.requires.5)

pub returns : goal.returns
returns c =
    (urgent_made _ _ c.of_all-g.ensures, c.clear.ensures ∙ ap none c.of_all-g.auto.bits)
