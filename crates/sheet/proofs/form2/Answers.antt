use mathlib.Core.Path.{refl}
use Rattle.sheet.specs.Limits.{form2}
use Rattle.sheet.proofs.form2.Goals as goal

-- src/lib.rt:65:1
pub returns : goal.returns
unfolding form2
returns c = refl
