-- The number of a position.
-- Assumes nothing.
use mathlib.Core.Path.{◌≡◌}
use mathlib.Core.List.{List}
use Prim.Native.Nat.{ℕ, ◌<◌, ◌≤◌}
use lib.IntN.{ℤ}
use borrow.Author.Tests.{lt-ltb, le-ltb}
use Rattle.words.specs.First.{given}
use Rattle.sheet.specs.Layout.{points}
use Rattle.ring.specs.Numbers.{position_no}

pub position_past : (w : List ℤ) (i : ℕ) → points w ≤ i → position_no w i ≡ 9
unfolding position_no given
position_past w i h = rw (le-ltb i (points w) h)

pub ring_position_in : (w : List ℤ) (i : ℕ) → i < points w → position_no w i ≡ 0
unfolding position_no given
ring_position_in w i h = rw (lt-ltb i (points w) h)
