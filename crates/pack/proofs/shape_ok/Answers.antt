use Rattle.pack.specs.Pack.{shape_ok}
use Rattle.pack.proofs.PackLaws.{thirds}
use Rattle.pack.proofs.shape_ok.Goals as goal

pub returns : goal.returns
unfolding shape_ok
returns c = rw (← thirds _ _)
