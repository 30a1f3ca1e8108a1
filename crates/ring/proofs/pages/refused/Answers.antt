-- `ring::pages::refused` meets its contract. Assumes nothing.
use mathlib.Core.Path.{refl}
use Rattle.ring.specs.Page.{page_refused}
use Rattle.ring.proofs.pages.refused.Goals as goal

pub returns : goal.returns
unfolding page_refused
returns c = refl
