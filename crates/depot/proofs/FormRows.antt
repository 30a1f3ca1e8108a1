-- The first so many of 64 forms, lent.
-- Assumes nothing.
use mathlib.Core.Path.{◌≡◌, refl}
use mathlib.Core.Bool.{Bool, true, false, cond}
use mathlib.Core.List.{List}
use Prim.Native.Nat.{ℕ, ◌≤◌}
use native.Mathlib.Omega.{arith}
use lib.Dec.{ltb}
use lib.ListN.{length, take}
use lib.Seq.{length-take-le}
use borrow.Author.Tests.{ltb-false}
use Rattle.list.specs.Lent.{lent_of}
use Rattle.depot.specs.declared.Form.{Form}

module _ (len m : ℕ) (e : m ≡ lent_of 64 len) where
  pub lent_few : m ≤ 64
  unfolding lent_of
  lent_few = omega (arith, e, few (ltb 64 len) refl)
    where
      few : (t : Bool) → ltb 64 len ≡ t → cond t 64 len ≤ 64
      few true t = omega arith
      few false t = ltb-false 64 len t

  pub forms_front_long : (l : List Form) → length l ≡ 64 → length (take m l) ≡ m
  forms_front_long l long = length-take-le m l (omega (arith, lent_few))
