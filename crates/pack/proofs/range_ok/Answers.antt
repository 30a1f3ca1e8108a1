use Rattle.pack.specs.Pack.{range_ok}
use Rattle.pack.proofs.range_ok.Goals as goal

pub returns : goal.returns
unfolding range_ok
returns c = cc
