-- `ranked::visits::scores_ok` meets its contract. Assumes nothing.
use Rattle.std.proofs.Common.{◌∙◌}
use Rattle.std.proofs.lemmas.Bool.{ne_eqb}
use Rattle.ranked.proofs.ScoresLaws.{scores_other, scores_by, scores_all}
use Rattle.ranked.proofs.visits.scores_ok.Goals as goal

pub returns-then-scores-n : goal.returns-then-scores-n
returns-then-scores-n c = scores_by _ _ _ c.if-scores-n.true (scores_all _ _ _ c.if-scores-n.true c.are_scores.ensures)

pub returns-else-scores-n : goal.returns-else-scores-n
returns-else-scores-n c = ne_eqb _ _ c.if-scores-n.false ∙ scores_other _ _ c.if-scores-n.false
