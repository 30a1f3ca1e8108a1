-- `view::open` meets its contract: the part that it keeps is the whole of a sheet's words, and none of others. Assumes nothing.
use Rattle.view.proofs.OpenLaws.{head_len, open_shown}
use Rattle.view.proofs.open.Goals as goal

pub keep-part-requires : goal.keep-part-requires
keep-part-requires c = head_len c.args.words.now _ c.head_of-h.ensures

pub returns : goal.returns
returns c = open_shown c.args.words c.keep-part.result c.head_of-h.result c.head_of-h.ensures c.keep-part.ensures
