-- `ring::least::counted` meets its contract: the chamber's pairs are its ring partners, and as many words as were lent are zeros. Assumes nothing.
use mathlib.Core.Path.{refl, ap, ◌∙◌}
use Rattle.bits.specs.Set.{none}
use Rattle.join.specs.Threshold.{smaller}
use Rattle.chamber.proofs.WholeLaws.{pairs_partners}
use Rattle.ring.proofs.PageLaws.{of_two}
use Rattle.ring.proofs.least.counted.Goals as goal

pub pairs_of-found-requires : goal.pairs_of-found-requires
pairs_of-found-requires c = let p = c.requires in (of_two _ refl _ _, p.0, p.1)

pub returns : goal.returns
returns c =
    let k = c in
    let s = k in
    let many = pairs_partners _ _ _ _ _ _ s.args.p.opens s.args.q.opens _ s.requires.0 _ _ k.pairs_of-found.ensures in
    (c.lesser.ensures ∙ ap (smaller s.args.t) many, c.clear.ensures ∙ ap none k.pairs_of-found.auto.bits)
