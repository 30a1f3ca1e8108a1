use Rattle.std.proofs.Common.{rules, ◌∙◌, refl, arith}
use Rattle.printout.proofs.CountLaws.{sixteen_hold, printout_fits, printout_more, all_listed}
use Rattle.printout.proofs.chambers.list_pairs.Goals as goal

pub keep_pairs-found-requires : goal.keep_pairs-found-requires
keep_pairs-found-requires g c = (c.requires, omega (arith, c.loop-j-test.true), sixteen_hold c.requires _ c.loop-j.invariant.1)

pub put_chamber-at-requires-clause-opens : goal.put_chamber-at-requires-clause-opens
put_chamber-at-requires-clause-opens g c = (
  omega (arith, c.loop-j-test.true),
  sixteen_hold c.requires _ (c.keep_pairs-found.auto.bits ∙ c.loop-j.invariant.1),
)

pub overflow_add-total : goal.overflow_add-total
overflow_add-total g c =
    omega (arith, printout_fits c.requires _ _ c.loop-j.invariant.3 (omega (arith, c.loop-j-test.true)) _ _ _ refl c.keep_pairs-found.ensures.pairs_on)

pub loop-j-preserved : goal.loop-j-preserved
loop-j-preserved g c = (
  search rules,
  c.keep_pairs-found.auto.bits ∙ c.loop-j.invariant.1,
  omega (arith, c.put_chamber-at.ensures.upper_bound, c.make_room-from.ensures, c.loop-j.invariant.0),
  printout_more c.requires _ _ c.loop-j.invariant.3 (omega (arith, c.loop-j-test.true)) _ _ _ refl c.keep_pairs-found.ensures.pairs_on,
)

pub returns : goal.returns
returns g c = all_listed c.requires _ _ c.loop-j.invariant.3 (omega (arith, c.loop-j-test.false))
