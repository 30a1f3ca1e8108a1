-- `seeds::walks::retry` meets its contract: what is taken out, a dropper drops. Assumes nothing.
use native.Mathlib.Omega.{arith}
use Rattle.walk.proofs.NodeLaws.{spot_fits}
use Rattle.seeds.proofs.LineLaws.{line_dropped_by}
use Rattle.seeds.proofs.CoverLaws.{retries_none, retries_gone}
use Rattle.seeds.proofs.walks.retry.Goals as goal

pub spot_by-requires : goal.spot_by-requires
spot_by-requires c = (c.requires.0, spot_fits _ _ _ c.args.w.opens _ _ c.requires.1 c.spot_at-z.ensures)

pub returns-then-spot_by-line : goal.returns-then-spot_by-line
returns-then-spot_by-line c =
    retries_gone _ _ _ _ _ _ _ _ (omega (arith, c.requires.1, c.requires.2.enough)) c.remove.ensures c.spot_at-z.ensures (line_dropped_by _ _ _ _ c.if-spot_by-line.true c.spot_by.ensures) (retries_none _ _ _ _)
