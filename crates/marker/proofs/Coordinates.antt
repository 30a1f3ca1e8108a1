-- Coordinates in range, and their sums. Assumes nothing.
use mathlib.Core.Path.{◌≡◌, sym, subst, ◌∙◌}
use mathlib.Core.Bool.{true}
use lib.IntN.{ℤ, pos, ◌+ℤ◌}
use lib.Signed.{◌≤ℤ◌}
use mir.Syntax.{w64}
use mir.Val.{to_z, of_z}
use mir.Facts.{to_z-of_z}
use Rattle.integers.proofs.Bools.{and_left, and_right}
use Rattle.integers.specs.Bounds.{Within}
use Rattle.integers.proofs.Order.{in-+, in_up, sfits_in}
use Rattle.words.proofs.RangeLaws.{coord_in}
use Rattle.sheet.specs.Limits.{form2}
use Rattle.marker.specs.Mark.{coordinate, on_map}

limit : form2.coordinate ≤ℤ pos 1000000000
unfolding form2
limit = record { le = tt }

pub sum_in : (a b : ℤ) → coordinate a ≡ true → coordinate b ≡ true → Within 2000000000 (a +ℤ b)
sum_in a b h k = in_up (in-+ (coord_in form2.coordinate a 1000000000 limit h) (coord_in form2.coordinate b 1000000000 limit k)) tt

-- a sum, read back from its bits
pub read_back : {r z : ℤ} → r ≡ z → Within 2000000000 z → to_z w64 (of_z w64 r) ≡ z
read_back {r} e h = to_z-of_z (sfits_in {w = w64} (subst (Within 2000000000) (sym e) h) tt) ∙ e

-- what the test of two places says of each coordinate
pub each : (ax ay bx by : ℤ) → on_map ax ay bx by ≡ true → (coordinate ax ≡ true) × (coordinate ay ≡ true) × (coordinate bx ≡ true) × (coordinate by ≡ true)
unfolding on_map
each ax ay bx by h =
    let t = and_right (coordinate ax) _ h in
    let u = and_right (coordinate ay) _ t in
    (and_left (coordinate ax) _ h, and_left (coordinate ay) _ t, and_left (coordinate bx) (coordinate by) u, and_right (coordinate bx) (coordinate by) u)
