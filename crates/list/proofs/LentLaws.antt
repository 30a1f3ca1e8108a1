-- The first so many slots of an array, lent: how many they are, and the slots when they are back.
-- Assumes nothing.
use mathlib.Core.Path.{◌≡◌, refl, ◌∙◌}
use mathlib.Core.Bool.{Bool, true, false, cond}
use mathlib.Core.List.{List, ◌++◌}
use Prim.Native.Nat.{ℕ, ◌*◌, ◌≤◌, ◌<◌, ◌^◌}
use native.Mathlib.Omega.{arith}
use lib.Dec.{ltb}
use lib.ListN.{length, take, drop, length-append, length-drop}
use lib.Seq.{length-take-le}
use borrow.Author.Tests.{ltb-false}
use Rattle.list.specs.declared.Pair.{Pair}
use Rattle.list.specs.Lent.{lent_of}
use Rattle.list.proofs.PairRows.{width}

module _ (slots len m : ℕ) (e : m ≡ lent_of slots len) where
  lent_few : m ≤ slots
  unfolding lent_of
  lent_few = omega (arith, e, few (ltb slots len) refl)
    where
      few : (t : Bool) → ltb slots len ≡ t → cond t slots len ≤ slots
      few true t = omega arith
      few false t = ltb-false slots len t

  pub lent_room : slots ≤ 256 → (m < 2 ^ 64) × (m * width < 2 ^ 63)
  lent_room h = let f = lent_few in (omega arith, omega arith)

  module _ (l : List Pair) (long : length l ≡ slots) where
    pub front_long : length (take m l) ≡ m
    front_long = length-take-le m l (omega (arith, lent_few))

    pub array_long : (zs : List Pair) → length zs ≡ length (take m l) → length (zs ++ drop m l) ≡ slots
    array_long zs h = length-append zs (drop m l) ∙ omega (arith, length-drop m l, front_long, lent_few)
