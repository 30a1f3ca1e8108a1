-- `sheet::reads::Sheet::open` meets its contract. Assumes nothing.
use mathlib.Core.Path.{sym, ◌∙◌}
use Rattle.sheet.proofs.SheetLaws.{sheet_facts}
use Rattle.sheet.proofs.reads.Sheet.open.Goals as goal

pub known-requires : goal.known-requires
known-requires c = sheet_facts c.args.words.now (sym c.open_no.ensures ∙ c.in-0.is)
