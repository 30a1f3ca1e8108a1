-- `nearest::kept_on` meets its contract. Assumes nothing.
use Rattle.ring.proofs.FilterLaws.{filter_told}
use Rattle.nearest.proofs.kept_on.Goals as goal

pub returns : goal.returns
returns c =
    let k = c.near_kept-opened.ensures in
    (filter_told _ _ _ _ k.0 k.1 c.len.ensures, k.2, k.0)
