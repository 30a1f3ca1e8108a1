use mathlib.Core.Bool.{not}
use mathlib.Core.Path.{ap, sym, ◌∙◌}
use native.Mathlib.Omega.{arith}
use borrow.Author.Tests.{not-true, not-false}
use Rattle.walk.proofs.NodeLaws.{spot_fits}
use Rattle.walk.proofs.RingCode.{first_opened, pair_stops, pair_goes_on}
use Rattle.walk.proofs.ring.pair_walk_by.Goals as goal

pub ring_on-r-requires : goal.ring_on-r-requires
ring_on-r-requires c = let p = c.requires in (spot_fits _ _ _ c.args.q.opens _ _ p.0 c.spot_at-a.ensures, spot_fits _ _ _ c.args.p.opens _ _ p.1 c.spot_at-b.ensures, omega arith)

pub returns-then-not-clear_after : goal.returns-then-not-clear_after
returns-then-not-clear_after c = pair_stops _ _ _ _ _ _ _ c.spot_at-a.ensures c.spot_at-b.ensures _ c.ring_on-r.ensures (sym c.clear_after.ensures ∙ not-true _ (ap not c.if-not-clear_after.true))

pub ring_on-requires : goal.ring_on-requires
ring_on-requires c = let p = c.requires in (spot_fits _ _ _ c.args.q.opens _ _ p.0 c.spot_at-a.ensures, spot_fits _ _ _ c.args.p.opens _ _ p.1 c.spot_at-b.ensures, first_opened _ _ _ _ _ _ _ c.spot_at-a.ensures c.spot_at-b.ensures _ c.ring_on-r.ensures _ _ c.args.q.opens)

pub returns : goal.returns
returns c = pair_goes_on _ _ _ _ _ _ _ c.spot_at-a.ensures c.spot_at-b.ensures _ c.ring_on-r.ensures _ (sym c.clear_after.ensures ∙ not-false _ (ap not c.if-not-clear_after.false)) c.ring_on.ensures
