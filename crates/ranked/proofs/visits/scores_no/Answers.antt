-- `ranked::visits::scores_no` meets its contract. Assumes nothing.
use mathlib.Core.Path.{sym, ap, ◌∙◌}
use mathlib.Core.Bool.{not}
use Rattle.words.proofs.FirstLaws.{given_yes, given_no}
use Rattle.ranked.specs.Urgent.{scores_no}
use Rattle.ranked.proofs.visits.scores_no.Goals as goal

pub returns-then-not-scores_ok : goal.returns-then-not-scores_ok
unfolding scores_no
returns-then-not-scores_ok c = sym (given_yes _ (ap not (sym c.scores_ok.ensures) ∙ (ap not c.if-not-scores_ok.true)))

pub returns : goal.returns
unfolding scores_no
returns c = sym (given_no _ (ap not (sym c.scores_ok.ensures) ∙ (ap not c.if-not-scores_ok.false)))
