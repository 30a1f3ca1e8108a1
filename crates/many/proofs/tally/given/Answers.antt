-- `many::tally::given` meets its contract. Assumes nothing.
use mathlib.Core.Path.{ap, ◌∙◌}
use native.Mathlib.Omega.{arith}
use Rattle.bits.specs.Set.{none}
use Rattle.bits.proofs.LentLaws.{lent_holds}
use Rattle.many.proofs.CheckLaws.{count_given_lem}
use Rattle.many.proofs.tally.given.Goals as goal

pub count_all-count-requires : goal.count_all-count-requires
count_all-count-requires c =
    let p = c.requires in
    (p.0, lent_holds _ _ (omega (arith, c.args.p.opens.n_le)) p.1)

pub returns : goal.returns
returns c =
    let s = c.args in
    (count_given_lem s.largest s.terms _ _ _ _ c.count_all-count.ensures, c.clear.ensures ∙ ap none c.count_all-count.auto.bits)
