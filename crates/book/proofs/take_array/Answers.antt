-- `book::take_array` meets its contract.
-- Assumes nothing.
use mathlib.Core.Path.{◌≡◌, refl, sym}
use lib.ListN.{length, take, length-take}
use native.Mathlib.Omega.{arith}
use Rattle.list.proofs.PageLaws.{long_of}
use Rattle.list.proofs.LentLaws.{front_long}
use Rattle.book.proofs.CoreLaws.{array_is}
use Rattle.book.proofs.take_array.Goals as goal

pub slice_bounds-own-end : goal.slice_bounds-own-end
slice_bounds-own-end c =
    let long : length c.args.slots ≡ 64 = let z = c.well_formed.0 in search long_of in
    let front : length (take c.lent_of-n.result c.args.slots) ≡ c.lent_of-n.result = front_long 64 _ _ c.lent_of-n.ensures _ long in
    omega (arith, length-take c.lent_of-n.result c.args.slots)

pub slice_bounds-take-end : goal.slice_bounds-take-end
slice_bounds-take-end c =
    let long : length c.args.slots ≡ 64 = let z = c.well_formed.0 in search long_of in
    sym (front_long 64 _ _ c.lent_of-n.ensures _ long)

pub returns : goal.returns
returns c = array_is _ _ _ _ _ _ _ _ c.lent_of-n.ensures c.take-taken.ensures.0 c.take-taken.ensures.1 refl
