-- Laws of the place where the input is split. Assumes nothing.
use mathlib.Core.Path.{◌≡◌, refl, sym, ◌∙◌}
use mathlib.Core.Bool.{true, false, cond, ◌&&◌, true≢false}
use mathlib.Core.List.{List}
use Prim.Native.Nat.{ℕ, ◌+◌, ◌-◌, ◌≤◌, ◌<◌}
use native.Mathlib.Omega.{arith}
use borrow.Author.Tests.{le-leb, lt-leb}
use lib.Dec.{leb}
use lib.IntN.{ℤ, pos, negsuc, ◌+ℤ◌}
use lib.ListN.{length}
use lib.Signed.{le_z, lt_z}
use Rattle.integers.proofs.Order.{sum, zl}
use Rattle.words.specs.Word.{within, num}
use Rattle.sheet.specs.Layout.{span}
use Rattle.printout.specs.Split.{split_at}

pub split_below : (w : List ℤ) → lt_z (span w) (pos 0) ≡ true → 0 ≡ split_at w
unfolding split_at within
split_below w h =
    let e : le_z (pos 6) (span w +ℤ pos 6) ≡ false = omega (zl, sum (span w) (pos 6)) in
    rw e

-- a span that is not below 0 is its count
pub span_num : (z : ℤ) → lt_z z (pos 0) ≡ false → z ≡ pos (num z)
unfolding num
span_num (pos k) h = refl
span_num (negsuc k) h = absurd (true≢false h)

module _ (w : List ℤ) (k : ℕ) (e : span w ≡ pos k) where
  at_six : split_at w ≡ cond (leb 6 (k + 6) && leb (k + 6) (length w)) (length w - (k + 6)) 0
  unfolding split_at within num
  at_six = rw e

  pub split_over : length w < k + 6 → 0 ≡ split_at w
  split_over h = sym (at_six ∙ rw (le-leb 6 (k + 6) (omega arith), lt-leb (k + 6) (length w) h))

  pub split_within : k + 6 ≤ length w → length w - (k + 6) ≡ split_at w
  split_within h = sym (at_six ∙ rw (le-leb 6 (k + 6) (omega arith), le-leb (k + 6) (length w) h))
