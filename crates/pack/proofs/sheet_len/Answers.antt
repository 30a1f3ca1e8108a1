-- `pack::sheet_len` meets its contract: past the points of form 2 the answer is 0, and else it is the sheet's length. Assumes nothing.
use native.Mathlib.Omega.{arith}
use Rattle.pack.proofs.PackLaws.{length_past, length_within}
use Rattle.pack.proofs.sheet_len.Goals as goal

pub returns-then-n-gt60000 : goal.returns-then-n-gt60000
returns-then-n-gt60000 c = length_past _ (omega (arith, c.if-n-gt60000.true))

pub returns : goal.returns
returns c = length_within _ _ (omega (arith, c.if-n-gt60000.false)) c.size_for.ensures
