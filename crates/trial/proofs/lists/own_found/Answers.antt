-- `trial::lists::own_found` meets its contract. Assumes nothing.
use Rattle.std.proofs.Common.{◌≡◌, sym, arith, length, take, length-take}
use Rattle.list.proofs.PageLaws.{long_of}
use Rattle.list.proofs.LentLaws.{front_long}
use Rattle.trial.proofs.lists.own_found.Goals as goal

pub slice_bounds-own-end : goal.slice_bounds-own-end
slice_bounds-own-end c =
    let long : length c.args.slots ≡ 256 = let z = c.well_formed.1.1.1.1.0 in search long_of in
    let front : length (take c.lent_of-n.result c.args.slots) ≡ c.lent_of-n.result = front_long 256 _ _ c.lent_of-n.ensures _ long in
    omega (arith, length-take c.lent_of-n.result c.args.slots)

pub slice_bounds-own_pairs-end : goal.slice_bounds-own_pairs-end
slice_bounds-own_pairs-end c =
    let long : length c.args.slots ≡ 256 = let z = c.well_formed.1.1.1.1.0 in search long_of in
    sym (front_long 256 _ _ c.lent_of-n.ensures _ long)
