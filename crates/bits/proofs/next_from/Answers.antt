use mathlib.Core.Path.{◌≡◌, ◌∙◌}
use Prim.Native.Nat.{◌/◌, ◌%◌, ◌+◌, ◌^◌}
use lib.ListN.{get_or}
use lib.Count.{count_trailing_zeros}
use Rattle.bits.specs.Set.{next_from}
use Rattle.bits.proofs.NextLaws.{from_hit, from_miss, from_none}
use Rattle.bits.proofs.next_from.Goals as goal

-- the next one, where what is left of the word is not 0
found : (c : goal.Then-rest-ne0) → c.loop-at.at + count_trailing_zeros 64 (get_or c.args.bits.now (c.loop-at.at / 64) 0 / 2 ^ (c.loop-at.at % 64)) ≡ next_from c.args.bits.now c.loop-at.at
found c = from_hit _ _ c.loop-at-test.true (c.type_inv.bits (c.loop-at.at / 64)).fits c.if-rest-ne0.true

pub returns-then-rest-ne0 : goal.returns-then-rest-ne0
returns-then-rest-ne0 c = found c ∙ c.loop-at.invariant

pub loop-at-preserved : goal.loop-at-preserved
loop-at-preserved c = from_miss _ c.loop-at.at c.loop-at-test.true c.if-rest-ne0.false ∙ c.loop-at.invariant

pub returns : goal.returns
returns c = from_none _ _ c.loop-at-test.false ∙ c.loop-at.invariant
