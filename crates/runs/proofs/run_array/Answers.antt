-- `runs::run_array` meets its contract.
-- Assumes nothing.
use mathlib.Core.Path.{◌≡◌, sym}
use native.Mathlib.Omega.{arith}
use lib.ListN.{length, take, length-take}
use Rattle.list.proofs.PageLaws.{long_of}
use Rattle.list.proofs.LentLaws.{front_long}
use Rattle.runs.proofs.ArrayLaws.{runs_array_is, runs_array_words}
use Rattle.runs.proofs.run_array.Goals as goal

pub slice_bounds-own-end : goal.slice_bounds-own-end
slice_bounds-own-end c =
    let long : length c.args.slots ≡ 256 = let z = c.well_formed.1.1.1.0 in search long_of in
    let front : length (take c.lent_of-n.result c.args.slots) ≡ c.lent_of-n.result = front_long 256 _ _ c.lent_of-n.ensures _ long in
    omega (arith, length-take c.lent_of-n.result c.args.slots)

pub slice_bounds-leaf_run-end : goal.slice_bounds-leaf_run-end
slice_bounds-leaf_run-end c =
    let long : length c.args.slots ≡ 256 = let z = c.well_formed.1.1.1.0 in search long_of in
    sym (front_long 256 _ _ c.lent_of-n.ensures _ long)

pub returns : goal.returns
returns c = (
  runs_array_is _ _ _ _ _ _ c.lent_of-n.ensures _ _ _ _ c.leaf_run-run.ensures.0 c.leaf_run-run.ensures.1 c.with_slots.ensures,
  runs_array_words _ _ _ _ _ _ c.lent_of-n.ensures _ _ c.leaf_run-run.ensures.2,
)
