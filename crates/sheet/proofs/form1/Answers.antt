use mathlib.Core.Path.{refl}
use Rattle.sheet.specs.Limits.{form1}
use Rattle.sheet.proofs.form1.Goals as goal

-- src/lib.rt:65:1
pub returns : goal.returns
unfolding form1
returns c = refl
