-- `words::is_edition` meets its contract. Assumes nothing.
use Rattle.std.proofs.Common.{◌∙◌}
use Rattle.words.specs.Range.{edition_ok}
use Rattle.words.proofs.ContainsLaws.{in_numbers}
use Rattle.words.proofs.is_edition.Goals as goal

pub returns : goal.returns
unfolding edition_ok
returns c = let s = c.new.ensures in c.contains.ensures.value ∙ in_numbers c.new.result _ _ _ s.start s.end s.exhausted
