-- `view::open_head` meets its contract: what the view shows, as the head of its words. Assumes nothing.
use Rattle.view.proofs.OpenLaws.{shown_head}
use Rattle.view.proofs.open_head.Goals as goal

pub returns : goal.returns
returns c = shown_head c.args.words c.open-o.result c.open-o.ensures
