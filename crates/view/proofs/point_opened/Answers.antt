-- `view::point_opened` meets its contract: the reader is asked of the words that the view covers. Assumes nothing.
use mathlib.Core.Path.{ap, ◌∙◌}
use Rattle.ring.specs.Answers.{pointed}
use Rattle.view.specs.Shown.{Shown}
use Rattle.view.proofs.point_opened.Goals as goal

pub returns : goal.returns
returns c = c.point_at.ensures ∙ ap (λ (x : Shown). pointed x.covers c.args.position) c.open-o.ensures
