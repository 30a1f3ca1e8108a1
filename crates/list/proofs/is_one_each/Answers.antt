-- `list::is_one_each` meets its contract. Assumes nothing.
use Rattle.std.proofs.Common.{◌∙◌}
use Rattle.std.proofs.lemmas.Bool.{ne_eqb}
use Rattle.list.proofs.ContractorLaws.{each_other, each_by, bits_all}
use Rattle.list.proofs.is_one_each.Goals as goal

pub returns-then-owners-n : goal.returns-then-owners-n
returns-then-owners-n c = each_by _ _ _ c.if-owners-n.true (bits_all _ _ _ c.if-owners-n.true c.are_bits.ensures)

pub returns-else-owners-n : goal.returns-else-owners-n
returns-else-owners-n c = ne_eqb _ _ c.if-owners-n.false ∙ each_other _ _ c.if-owners-n.false
