-- `sheet::open_no` meets its contract. Assumes nothing.
use mathlib.Core.Path.{sym, subst}
use Rattle.sheet.specs.Limits.{Fair}
use Rattle.sheet.proofs.SheetLaws.{limits_fair}
use Rattle.sheet.proofs.open_no.Goals as goal

pub open_by-requires : goal.open_by-requires
open_by-requires c = subst Fair (sym c.limits_of.ensures) (limits_fair _)
