use Rattle.sheet.specs.Layout.{layout_ok}
use Rattle.sheet.proofs.trailer.layout_ok.Goals as goal

-- src/trailer.rt:27:1
pub returns : goal.returns
unfolding layout_ok
returns c = cc
