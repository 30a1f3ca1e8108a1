-- `runs::next_pair` meets its contract: the run is read from the first of the lent words. Assumes nothing.
use Rattle.runs.proofs.DecideLaws.{next_asked, next_left}
use Rattle.runs.proofs.next_pair.Goals as goal

pub pair_from-requires : goal.pair_from-requires
pair_from-requires c =
    let p = c.known-ps.ensures in
    let q = c.known-qs.ensures in
    let t = next_asked _ _ _ c.args.bits.now c.args.at _ _ p.1 c.words_for-each.ensures c.requires.0 _ _ _ p.2 q.1 q.2 c.requires.1 in
    rw (p.0, q.0) (t.2, t.3, t.4, t.5, t.6)

pub returns : goal.returns
returns c =
    let p = c.known-ps.ensures in
    next_left _ _ _ c.args.bits.now c.args.at _ _ p.1 c.words_for-each.ensures _ _ (rw (p.0, c.known-qs.ensures.0) at c.pair_from.ensures)
