-- `ffi::ring_open` meets its contract. A sheet has its trailer, so its edition and its form can be read.
-- Assumes nothing.
use native.Mathlib.Omega.{arith}
use Rattle.ffi.proofs.OpenLaws.{over_shut, over_long, over_found}
use Rattle.ffi.proofs.ring_open.Goals as goal

pub returns-then-h-ne0 : goal.returns-then-h-ne0
returns-then-h-ne0 c = over_shut _ _ c.head_of-h.ensures c.if-h-ne0.true

pub overflow_sub-len : goal.overflow_sub-len
overflow_sub-len c =
    omega (arith, over_long c.args.words.now c.head_of-h.result c.head_of-h.ensures c.if-h-ne0.false)

pub overflow_sub-len-2 : goal.overflow_sub-len-2
overflow_sub-len-2 c =
    omega (arith, over_long c.args.words.now c.head_of-h.result c.head_of-h.ensures c.if-h-ne0.false)

pub returns : goal.returns
returns c =
    over_found _ _ c.head_of-h.ensures c.if-h-ne0.false _ _ c.num_at.ensures.value c.num_at-2.ensures.value
