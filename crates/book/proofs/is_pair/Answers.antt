use mathlib.Core.Bool.{◌&&◌}
use mathlib.Core.Path.{ap₂}
use Rattle.book.specs.Rules.{pair_ok}
use Rattle.book.proofs.is_pair.Goals as goal

pub returns : goal.returns
unfolding pair_ok
returns c = ap₂ ◌&&◌ (ap₂ ◌&&◌ c.is_id.ensures c.is_id-2.ensures) c.is_size.ensures
