-- `chamber::listed_of` meets its contract. Assumes nothing.
use mathlib.Core.Path.{ap}
use mathlib.Core.Bool.{not}
use native.Mathlib.Omega.{arith}
use Rattle.chamber.proofs.ListedLaws.{points_many, listed_other, listed_few, listed_all}
use Rattle.chamber.proofs.listed_of.Goals as goal

pub returns-then-not-is_mine : goal.returns-then-not-is_mine
returns-then-not-is_mine c =
    let s = c in
    listed_other s.args.largest s.args.terms _ _ _ _ (points_many _ _ _ s.args.p.opens) _ _ _ c.is_mine.ensures (ap not c.if-not-is_mine.true)

pub returns-then-found-wide : goal.returns-then-found-wide
returns-then-found-wide c =
    let s = c in
    listed_few s.args.largest s.args.terms _ _ _ _ (points_many _ _ _ s.args.p.opens) _ _ _ c.pairs_of-found.ensures (omega (arith, c.if-found-wide.true, c.wide.ensures))

pub returns : goal.returns
returns c =
    let s = c in
    listed_all s.args.largest s.args.terms _ _ _ _ (points_many _ _ _ s.args.p.opens) _ _ _ c.pairs_of-found.ensures _ c.is_mine.ensures (ap not c.if-not-is_mine.false) (omega (arith, c.if-found-wide.false, c.wide.ensures))
