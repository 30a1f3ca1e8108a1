-- `seeds::scan::start` meets its contract. Assumes nothing.
use mathlib.Core.Path.{refl}
use native.Mathlib.Omega.{arith}
use Rattle.seeds.proofs.ScanLaws.{skip_rest}
use Rattle.seeds.proofs.scan.start.Goals as goal

pub returns : goal.returns
returns c = skip_rest _ _ _ _ refl (omega (arith, c.if-n-w.false)) c.if-rest-ne0.false c.past_blank.ensures.1
