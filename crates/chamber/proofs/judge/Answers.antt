-- `chamber::judge` meets its contract. Assumes nothing.
use mathlib.Core.Path.{ap}
use mathlib.Core.Bool.{not}
use Rattle.walk.proofs.NodeLaws.{spot_fits}
use Rattle.chamber.proofs.KeepLaws.{small_not, small_free, chamber_spot_in}
use Rattle.chamber.proofs.judge.Goals as goal

pub returns-then-not-may_be : goal.returns-then-not-may_be
returns-then-not-may_be c = let s = c in (small_not s.args.largest s.args.terms _ _ _ _ _ c.may_be.ensures (ap not c.if-not-may_be.true), s.requires.4, s.requires.5)

pub seen_at-s-requires : goal.seen_at-s-requires
seen_at-s-requires c =
    let s = c in
    let p = s.requires in
    (p.0, chamber_spot_in _ _ _ s.args.q.opens _ p.1 _ p.3, spot_fits _ _ _ s.args.p.opens _ _ p.2 c.spot_at-b.ensures, p.4, p.5)

pub returns : goal.returns
returns c =
    let s = c in
    let p = s.requires in
    let t = c.seen_at-s.ensures in
    (small_free s.args.largest s.args.terms _ _ _ _ _ c.may_be.ensures _ _ s.args.p.opens p.2 (ap not c.if-not-may_be.false) _ _ p.3 c.spot_at-b.ensures _ t.2, t.0, t.1)
