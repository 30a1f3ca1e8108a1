-- `ranked::visits::last_no` meets its contract, number by number. Assumes nothing.
use Rattle.ranked.proofs.ScoresLaws.{last_p, last_q, last_short, last_passes}
use Rattle.ranked.proofs.visits.last_no.Goals as goal

pub returns-then-a-ne0 : goal.returns-then-a-ne0
returns-then-a-ne0 c = last_p _ _ c.scores_no-a.ensures _ c.if-a-ne0.true

pub returns-then-b-ne0 : goal.returns-then-b-ne0
returns-then-b-ne0 c = last_q _ _ c.scores_no-a.ensures c.if-a-ne0.false _ _ c.scores_no-b.ensures _ c.if-b-ne0.true

pub returns-then-len-words : goal.returns-then-len-words
returns-then-len-words c = last_short _ _ c.scores_no-a.ensures c.if-a-ne0.false _ _ c.scores_no-b.ensures c.if-b-ne0.false _ _ c.if-len-words.true

pub returns : goal.returns
returns c = last_passes _ _ c.scores_no-a.ensures c.if-a-ne0.false _ _ c.scores_no-b.ensures c.if-b-ne0.false _ _ c.if-len-words.false
