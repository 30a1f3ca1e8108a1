-- `printout::chambers::keep_pairs` meets its contract. Assumes nothing.
use Rattle.printout.proofs.CountLaws.{ring_kept, printout_few}
use Rattle.printout.proofs.chambers.keep_pairs.Goals as goal

pub returns : goal.returns
returns c =
    let f = c in
    let p = f.requires in
    record { pairs_on = ring_kept p.0 _ p.1 _ _ f.pairs_of.ensures; upper_bound = printout_few p.0 _ p.1 _ _ f.pairs_of.ensures }
