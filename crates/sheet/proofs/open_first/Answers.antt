use mathlib.Core.Path.{sym, subst}
use Rattle.sheet.specs.Limits.{Fair}
use Rattle.sheet.proofs.SheetLaws.{form1_fair}
use Rattle.sheet.proofs.open_first.Goals as goal

-- src/lib.rt:79:5
pub open_by-requires : goal.open_by-requires
open_by-requires c = subst Fair (sym c.form1.ensures) form1_fair
