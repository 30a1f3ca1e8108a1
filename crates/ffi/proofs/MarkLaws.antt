-- The marker's promise admits one answer, `marked_at`, and that one meets it: what crosses to C is the marker's own answer. Assumes nothing.
use mathlib.Core.Path.{◌≡◌, refl, ap, subst}
use Prim.Native.Nat.{ℕ, zero, suc}
use native.Mathlib.Omega.{arith}
use lib.IntN.{ℤ, ◌+ℤ◌}
use Rattle.std.specs.Prelude.{Result, Ok, Err}
use Rattle.integers.specs.Bounds.{Within}
use Rattle.words.specs.First.{answer}
use Rattle.words.proofs.FirstLaws.{given_held}
use Rattle.marker.specs.Half.{half_of, HalfOf}
use Rattle.marker.specs.Mark.{mark_no, number_of, Middle, MiddleAt, Marks}
use Rattle.marker.specs.declared.Marker.{Marker}
use Rattle.marker.proofs.Exactly.{is_half}
use Rattle.marker.proofs.Coordinates.{each, sum_in}
use Rattle.ffi.specs.Over.{marked_at}

-- by the number
only_by : (k : ℕ) (ax ay bx by : ℤ) (r : Result Marker ℕ) → number_of r ≡ k → MiddleAt k ax ay bx by r
    → r ≡ answer k (Ok (record { x = half_of (ax +ℤ bx); y = half_of (ay +ℤ by) })) Err
unfolding answer
only_by zero ax ay bx by (Err n) e h = absurd h
only_by zero ax ay bx by (Ok m) e h = λ i. Ok record { x = h.x.value i; y = h.y.value i }
only_by (suc k) ax ay bx by (Err n) e h = ap Err e
only_by (suc k) ax ay bx by (Ok m) e h = absurd (omega (arith, e))

pub marked_is : (ax ay bx by : ℤ) (r : Result Marker ℕ) → Marks ax ay bx by r → r ≡ marked_at ax ay bx by
unfolding marked_at
marked_is ax ay bx by r h = only_by (mark_no ax ay bx by) ax ay bx by r h.number h.marker

half_is : (z : ℤ) → Within 2000000000 z → HalfOf z (half_of z)
half_is z h = let e = is_half z h in subst (HalfOf z) e.value e

meets_by : (k : ℕ) (ax ay bx by : ℤ) (m : Marker) → (k ≡ 0 → Middle ax ay bx by m) → (number_of (answer k (Ok m) Err) ≡ k) × MiddleAt k ax ay bx by (answer k (Ok m) Err)
unfolding answer
meets_by zero ax ay bx by m h = (refl, h refl)
meets_by (suc k) ax ay bx by m h = (refl, tt)

pub marked_marks : (ax ay bx by : ℤ) → Marks ax ay bx by (marked_at ax ay bx by)
unfolding mark_no marked_at
marked_marks ax ay bx by =
    let p = meets_by (mark_no ax ay bx by) ax ay bx by _ (λ e.
    let s = each ax ay bx by (given_held _ e) in
    record { x = half_is (ax +ℤ bx) (sum_in ax bx s.0 s.2); y = half_is (ay +ℤ by) (sum_in ay by s.1 s.3) }) in
    record { number = p.0; marker = p.1 }
