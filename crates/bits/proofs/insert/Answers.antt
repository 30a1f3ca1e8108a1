-- `bits::insert` meets its contract: `|` with a power of two sets its digit. Assumes nothing.
use Prim.Native.Nat.{◌/◌, ◌%◌}
use native.Mathlib.Omega.{arith}
use lib.ListN.{get_or}
use Rattle.bits.specs.Set.{with, at}
use Rattle.bits.proofs.DigitLaws.{set_digit}
use Rattle.bits.proofs.insert.Goals as goal

pub returns : goal.returns
unfolding with at
returns c =
    let a = c.args in
    rw (set_digit (get_or a.bits.now (a.i / 64) 0) (a.i % 64) (omega arith))
