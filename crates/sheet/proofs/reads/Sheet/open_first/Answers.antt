-- `sheet::reads::Sheet::open_first` meets its contract. Assumes nothing.
use mathlib.Core.Path.{sym, ◌∙◌}
use Rattle.sheet.specs.Limits.{form1}
use Rattle.sheet.proofs.SheetLaws.{form1_fair, open_facts}
use Rattle.sheet.proofs.reads.Sheet.open_first.Goals as goal

pub known-requires : goal.known-requires
known-requires c = open_facts form1 form1_fair c.args.words.now (sym c.open_first.ensures ∙ c.in-0.is)
