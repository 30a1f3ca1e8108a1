-- `bits::remove` meets its contract: what `&` with a power of two shows is what `&` with all but that one leaves out. Assumes nothing.
use Prim.Native.Nat.{ℕ, ◌*◌, ◌-◌, ◌/◌, ◌%◌, ◌<◌, ◌^◌}
use mathlib.Core.Path.{◌≡◌}
use native.Mathlib.Omega.{arith}
use lib.Bits.{bit_and}
use lib.ListN.{get_or}
use Rattle.std.proofs.lemmas.Nat.{and-not, and_comm}
use Rattle.bits.specs.Set.{digit, without, at}
use Rattle.bits.proofs.SetLaws.{and_one_at}
use Rattle.bits.proofs.remove.Goals as goal

-- of one word
left : (n k : ℕ) → n < 2 ^ 64 → k < 64 → bit_and n (18446744073709551615 - 1 * 2 ^ k % 18446744073709551616) ≡ n - digit n k * 2 ^ k
left n k f h =
    let m : ℕ = 1 * 2 ^ k % 18446744073709551616 in
    let small : m < 2 ^ 64 = omega arith in
    omega (arith, and-not 64 m n small f, and_comm m n, and_comm n (18446744073709551615 - m), and_one_at n k h)

pub returns : goal.returns
unfolding without at
returns c =
    let a = c.args in
    rw (left (get_or a.bits.now (a.i / 64) 0) (a.i % 64) (omega arith) (omega arith))
