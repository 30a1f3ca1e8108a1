-- `join::page_from` meets its contract. Assumes nothing.
use mathlib.Core.Path.{refl}
use Rattle.join.specs.Maker.{page_from}
use Rattle.join.proofs.page_from.Goals as goal

pub returns : goal.returns
unfolding page_from
returns c = refl
