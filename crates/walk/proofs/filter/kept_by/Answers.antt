-- `walk::filter::kept_by` meets its contract. Assumes nothing.
use Rattle.walk.proofs.FilterCode.{keeps_every, keeps_half}
use Rattle.walk.proofs.filter.kept_by.Goals as goal

pub returns-then-grid : goal.returns-then-grid
returns-then-grid c =
    let s = c in
    keeps_every _ _ _ _ s.args.w.opens.n_is _ _ c.if-grid.true c.fill.ensures

pub returns : goal.returns
returns c =
    let s = c in
    keeps_half _ _ _ _ s.args.w.opens.n_is _ _ _ c.if-grid.false c.filter_kept.ensures.0 c.filter_kept.ensures.1
