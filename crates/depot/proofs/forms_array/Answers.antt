-- `depot::forms_array` meets its contract.
-- Assumes nothing.
use mathlib.Core.Path.{◌≡◌, refl, sym}
use lib.ListN.{length}
use native.Mathlib.Omega.{arith}
use Rattle.list.proofs.PageLaws.{long_of}
use Rattle.list.proofs.LentLaws.{front_long}
use Rattle.depot.proofs.FormRows.{lent_few, forms_front_long}
use Rattle.depot.proofs.FormLaws.{made_array_is}
use Rattle.depot.proofs.forms_array.Goals as goal

pub slice_bounds-slots-end : goal.slice_bounds-slots-end
slice_bounds-slots-end c =
    let long : length c.args.slots ≡ 64 = let z = c.well_formed.0 in search long_of in
    omega (arith, lent_few _ _ c.lent_of-n.ensures)

pub slice_bounds-forms-end : goal.slice_bounds-forms-end
slice_bounds-forms-end c =
    let long : length c.args.slots ≡ 64 = let z = c.well_formed.0 in search long_of in
    sym (front_long 64 _ _ c.lent_of-n.ensures _ long)

pub slice_bounds-own-end : goal.slice_bounds-own-end
slice_bounds-own-end c =
    let long : length c.args.out ≡ 64 = let z = c.well_formed.1.1.0 in search long_of in
    omega (arith, lent_few _ _ c.lent_of-m.ensures)

pub slice_bounds-forms-end-2 : goal.slice_bounds-forms-end-2
slice_bounds-forms-end-2 c =
    let long : length c.args.out ≡ 64 = let z = c.well_formed.1.1.0 in search long_of in
    sym (forms_front_long _ _ c.lent_of-m.ensures _ long)

pub returns : goal.returns
returns c = made_array_is _ _ _ _ _ _ _ _ _ _ c.lent_of-n.ensures c.lent_of-m.ensures c.forms-made.ensures.0 c.forms-made.ensures.1 refl
