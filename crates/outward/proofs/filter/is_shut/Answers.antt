-- `outward::filter::is_shut` meets its contract. Assumes nothing.
use mathlib.Core.Path.{sym}
use Rattle.walk.proofs.NodeLaws.{box_fits}
use Rattle.walk.proofs.FilterCode.{shut_is}
use Rattle.outward.proofs.FilterCode.{finds_any}
use Rattle.outward.proofs.filter.is_shut.Goals as goal

pub seek_all-requires : goal.seek_all-requires
seek_all-requires c = let p = c.requires in (p.0, box_fits _ _ _ c.args.w.opens _ _ p.1 c.box_at-o.ensures, p.2)

pub returns : goal.returns
returns c = sym (shut_is _ _ _ _ _ _ _ c.box_at-o.ensures (finds_any _ _ _ _ c.seek_all.ensures))
