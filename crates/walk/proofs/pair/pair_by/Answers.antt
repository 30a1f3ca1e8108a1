-- `walk::pair::pair_by` meets its contract: the ids and the places are those of the points' list, and `pair_made` of `list`. Assumes nothing.
use mathlib.Core.Path.{sym, subst, ◌∙◌}
use native.Mathlib.Omega.{arith}
use Rattle.plane.specs.Rule.{SpotIn}
use Rattle.sheet.specs.Places.{points_of}
use Rattle.sheet.proofs.PointsLaws.{spot_of_lem}
use Rattle.sheet.proofs.RangeLaws.{spot_in}
use Rattle.plane.specs.Profile.{profile_of}
use Rattle.list.proofs.RowLaws.{pair_made}
use Rattle.walk.proofs.pair.pair_by.Goals as goal

pub size_of-requires : goal.size_of-requires
size_of-requires c =
    let b = c in
    let s = b in
    (subst SpotIn (sym b.spot_at-a.ensures) (spot_in s.args.q.opens _ s.requires.0), subst SpotIn (sym b.spot_at-b.ensures) (spot_in s.args.p.opens _ s.requires.1))

pub returns : goal.returns
returns c =
    let i = c in
    let b = i in
    let s = b in
    pair_made (profile_of s.args.grid) (points_of s.args.p.words.now) (points_of s.args.q.words.now) s.args.j s.args.i _ _ _ _ _ i.id_at.ensures i.id_at-2.ensures
    (b.spot_at-a.ensures ∙ sym (spot_of_lem _ _ (omega (arith, s.args.q.opens.n_is, s.requires.0))))
    (b.spot_at-b.ensures ∙ sym (spot_of_lem _ _ (omega (arith, s.args.p.opens.n_is, s.requires.1))))
    c.size_of.ensures
