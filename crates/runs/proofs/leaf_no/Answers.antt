-- `runs::leaf_no` meets its contract. Assumes nothing.
use Rattle.runs.proofs.DecideLaws.{leaf_past, leaf_inner, leaf_here}
use Rattle.runs.proofs.leaf_no.Goals as goal

pub returns-then-q-leaf : goal.returns-then-q-leaf
returns-then-q-leaf c = leaf_past _ _ _ c.args.q.opens.m_is c.if-q-leaf.true

pub returns-then-level_at-ne0 : goal.returns-then-level_at-ne0
returns-then-level_at-ne0 c = leaf_inner _ _ c.args.q.opens c.level_at.ensures c.if-level_at-ne0.true

pub returns : goal.returns
returns c = leaf_here _ _ c.args.q.opens c.level_at.ensures c.if-q-leaf.false c.if-level_at-ne0.false
