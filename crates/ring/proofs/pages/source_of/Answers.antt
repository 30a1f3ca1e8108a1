-- `ring::pages::source_of` meets its contract: a sheet that opens has its trailer. Assumes nothing.
use Rattle.ring.proofs.PageLaws.{source_read}
use Rattle.ring.proofs.pages.source_of.Goals as goal

pub returns : goal.returns
returns c = source_read _ _ _ _ _ c.num_at.ensures.value c.num_at-2.ensures.value
