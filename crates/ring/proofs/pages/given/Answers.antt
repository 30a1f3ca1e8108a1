-- `ring::pages::given` meets its contract, by `page_given_lem`: the maker's page is the list's, its count the walks'. Assumes nothing.
use mathlib.Core.Path.{ap, ◌∙◌}
use native.Mathlib.Omega.{arith}
use Rattle.bits.specs.Set.{none}
use Rattle.bits.proofs.LentLaws.{lent_holds}
use Rattle.ring.proofs.PageLaws.{page_given_lem}
use Rattle.ring.proofs.pages.given.Goals as goal

pub made_on-d-requires : goal.made_on-d-requires
made_on-d-requires c =
    let p = c.requires in
    (p.0, lent_holds _ _ (omega (arith, c.args.p.opens.n_le)) p.1, p.2)

pub returns : goal.returns
returns c =
    let m = c.made_on-d in
    let p = c.requires in (
      page_given_lem c.args.p.opens c.args.q.opens _ p.2 _ _ _ p.0 _ p.1 _ m.ensures _ c.source_of-source.ensures _ c.page_from-page.ensures,
      c.clear.ensures ∙ ap none m.auto.bits,
    )
