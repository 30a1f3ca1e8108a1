use mathlib.Core.Path.{◌∙◌}
use Rattle.pack.proofs.TableLaws.{count_min}
use Rattle.pack.proofs.tree.plan_count.Goals as goal

pub returns : goal.returns
returns c = c.min.ensures ∙ count_min c.args.d
