-- `book::next_array` meets its contract.
-- Assumes nothing.
use mathlib.Core.Path.{◌≡◌, sym}
use lib.ListN.{length, take, length-take}
use native.Mathlib.Omega.{arith}
use Rattle.list.proofs.PageLaws.{long_of}
use Rattle.list.proofs.LentLaws.{front_long}
use Rattle.book.proofs.next_array.Goals as goal

pub slice_bounds-slots-end : goal.slice_bounds-slots-end
slice_bounds-slots-end c =
    let long : length c.args.slots ≡ 64 = let z = c.well_formed.0 in search long_of in
    let front : length (take c.lent_of-n.result c.args.slots) ≡ c.lent_of-n.result = front_long 64 _ _ c.lent_of-n.ensures _ long in
    omega (arith, length-take c.lent_of-n.result c.args.slots)

pub slice_bounds-next_key-end : goal.slice_bounds-next_key-end
slice_bounds-next_key-end c =
    let long : length c.args.slots ≡ 64 = let z = c.well_formed.0 in search long_of in
    sym (front_long 64 _ _ c.lent_of-n.ensures _ long)
