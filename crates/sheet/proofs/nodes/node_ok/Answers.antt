use mathlib.Core.Path.{◌∙◌, sym}
use Rattle.sheet.specs.Nodes.{node_rule}
use Rattle.sheet.proofs.nodes.node_ok.Goals as goal

pub returns-then-not-run_ok : goal.returns-then-not-run_ok
unfolding node_rule
returns-then-not-run_ok c = rw (sym c.run_ok.ensures ∙ c.if-not-run_ok.true)

pub returns : goal.returns
unfolding node_rule
returns c = c.end_ok.ensures ∙ rw (sym c.run_ok.ensures ∙ c.if-not-run_ok.false)
