-- Words that are lent: how many n positions need, and the first so many of them, worked on.
-- Assumes nothing.
use mathlib.Core.Path.{◌≡◌, ap, ◌∙◌}
use mathlib.Core.List.{List, ◌++◌}
use Prim.Native.Nat.{ℕ, ◌+◌, ◌*◌, ◌≤◌, ◌<◌}
use native.Mathlib.Omega.{arith}
use lib.ListN.{length, take, drop, replicate}
use lib.Seq.{length-take-le}
use Rattle.bits.specs.Set.{none, words_for, wiped, Holds}

-- they are enough, and fewer than 64 positions are left over
pub words_enough : (n : ℕ) → n ≤ 64 * words_for n
unfolding words_for
words_enough n = omega arith

pub words_few : (n : ℕ) → 64 * words_for n ≤ n + 63
unfolding words_for
words_few n = omega arith

-- words as many as n positions need hold them
pub lent_holds : (ws : List ℕ) (n : ℕ) → n + 63 < 18446744073709551616 → length ws ≡ words_for n → Holds ws n
lent_holds ws n h e = record { enough = omega (arith, e, words_enough n); numbered = omega (arith, e, words_few n) }

-- the first k words, as many as there are
pub part_long : (ws : List ℕ) (k : ℕ) → k ≤ length ws → length (take k ws) ≡ k
part_long ws k h = length-take-le k ws h

-- the first k words set to 0: those after them are as they were
pub part_wiped : (ws zeros : List ℕ) (k : ℕ) → k ≤ length ws → zeros ≡ none (length (take k ws)) → zeros ++ drop k ws ≡ wiped k ws
unfolding none wiped
part_wiped ws zeros k h e = ap (λ (t : List ℕ). t ++ drop k ws) (e ∙ ap (λ (n : ℕ). replicate n 0) (part_long ws k h))
