-- `depot::take_array` meets its contract.
-- Assumes nothing.
use mathlib.Core.Path.{◌≡◌, refl, sym}
use lib.ListN.{length}
use native.Mathlib.Omega.{arith}
use Rattle.list.proofs.PageLaws.{long_of}
use Rattle.depot.proofs.FormRows.{lent_few, forms_front_long}
use Rattle.depot.proofs.DepotLaws.{stored_array_is}
use Rattle.depot.proofs.take_array.Goals as goal

pub slice_bounds-own-end : goal.slice_bounds-own-end
slice_bounds-own-end c =
    let long : length c.args.slots ≡ 64 = let z = c.well_formed.0 in search long_of in
    omega (arith, lent_few _ _ c.lent_of-n.ensures)

pub slice_bounds-take-end : goal.slice_bounds-take-end
slice_bounds-take-end c =
    let long : length c.args.slots ≡ 64 = let z = c.well_formed.0 in search long_of in
    sym (forms_front_long _ _ c.lent_of-n.ensures _ long)

pub returns : goal.returns
returns c = stored_array_is _ _ _ _ _ _ _ _ c.lent_of-n.ensures c.take-stored.ensures.0 c.take-stored.ensures.1 refl
