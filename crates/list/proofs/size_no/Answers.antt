-- `list::size_no` meets its contract. Assumes nothing.
use Rattle.std.proofs.Common.{sym, ap, ◌∙◌, not}
use Rattle.words.proofs.ContainsLaws.{in_numbers}
use Rattle.words.proofs.FirstLaws.{given_no, given_yes}
use Rattle.list.specs.Pages.{size_no}
use Rattle.list.proofs.size_no.Goals as goal

pub returns-then-contains : goal.returns-then-contains
unfolding size_no
returns-then-contains c =
    let s = c.new.ensures in
    let t = c.contains.ensures.value ∙ in_numbers c.new.result _ _ _ s.start s.end s.exhausted in
    sym (given_no 10 (ap not (sym t ∙ c.if-contains.true)))

pub returns-else-contains : goal.returns-else-contains
unfolding size_no
returns-else-contains c =
    let s = c.new.ensures in
    let t = c.contains.ensures.value ∙ in_numbers c.new.result _ _ _ s.start s.end s.exhausted in
    sym (given_yes _ (ap not (sym t ∙ c.if-contains.false)))
