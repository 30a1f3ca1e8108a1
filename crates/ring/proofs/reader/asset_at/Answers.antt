-- `ring::reader::asset_at` meets its contract: three words read.
-- Assumes nothing.
use Rattle.integers.proofs.Cast.{result32_is}
use Rattle.ring.proofs.PointLaws.{asset_read}
use Rattle.ring.proofs.reader.asset_at.Goals as goal

pub returns : goal.returns
returns c = asset_read _ _ _ _ _ c.num_at.ensures.value (result32_is c.at.type_inv c.at.ensures) (result32_is c.at-2.type_inv c.at-2.ensures)
