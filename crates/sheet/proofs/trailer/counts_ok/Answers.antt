use Rattle.sheet.specs.Layout.{counts_ok}
use Rattle.sheet.proofs.trailer.counts_ok.Goals as goal

-- src/trailer.rt:9:1
pub returns : goal.returns
unfolding counts_ok
returns c = cc
