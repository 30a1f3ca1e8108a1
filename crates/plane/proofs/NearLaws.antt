-- What blocks a pair is nearer to each of its ends than they are to each other: `nearer_left`, `nearer_right`.
-- Assumes nothing.
use mathlib.Core.Path.{◌≡◌, refl, ap, ◌∙◌}
use mathlib.Core.Bool.{Bool, true, false, not, ◌&&◌}
use mathlib.Core.List.{List, [], ◌∷◌}
use mathlib.Core.Logic.{⊎_elim}
use Prim.Native.Nat.{zero, suc, ◌*◌}
use native.Mathlib.Omega.{arith}
use native.Mathlib.Nat.{mul-le-mul}
use lib.Dec.{lt→ltb}
use lib.IntN.{ℤ, pos, negsuc, ◌-ℤ◌}
use lib.Signed.{le_z, ◌≤ℤ◌, ◌<ℤ◌}
use Rattle.integers.proofs.Order.{zl, diff, sum}
use Rattle.integers.proofs.Sign.{sq-≥0}
use Rattle.integers.proofs.Solver.{Expr, con, ◌:+◌, ◌:-◌, ◌:*◌, v0, v1, v2, v3, v4, v5}
use Rattle.integers.proofs.Linear.{to_le, to_lt, of_lt}
use Rattle.integers.proofs.Bools.{and_left, and_right, decide, clash}
use Rattle.plane.specs.declared.Spot.{Spot}
use Rattle.plane.specs.Rule.{sq, dot, same, same_spot, blocks, size}

sq_pos : (a : ℤ) → (a ≡ pos 0 → ⊥) → pos 0 <ℤ sq a
sq_pos (pos zero) f = absurd (f refl)
sq_pos (pos (suc n)) f = record { lt = lt→ltb 0 (suc n * suc n) (omega (arith, mul-le-mul {n₁ = 1} {m₁ = 1} {n₂ = suc n} {m₂ = suc n} (omega arith) (omega arith))) }
sq_pos (negsuc n) f = record { lt = lt→ltb 0 (suc n * suc n) (omega (arith, mul-le-mul {n₁ = 1} {m₁ = 1} {n₂ = suc n} {m₂ = suc n} (omega arith) (omega arith))) }

differ : (a b : ℤ) → same a b ≡ false → a -ℤ b ≡ pos 0 → ⊥
differ a b f e =
    let h : a ≤ℤ b = omega (zl, diff a b) in
    let k : b ≤ℤ a = omega (zl, diff a b) in
    let s : le_z a b ≡ true = omega zl in
    let t : le_z b a ≡ true = omega zl in
    clash (ap (λ (x : Bool). x && le_z b a) s ∙ t) f

-- two places that are not the same are apart
apart : (a b : Spot) → not (same_spot a b) ≡ true → pos 0 <ℤ size a b
unfolding same_spot
apart a b n =
    let dx = a.x -ℤ b.x in
    let dy = a.y -ℤ b.y in
    ⊎_elim
    (λ (x : same a.x b.x ≡ true).
    ⊎_elim
    (λ (y : same a.y b.y ≡ true). absurd (clash n (ap not (ap (λ (t : Bool). t && same a.y b.y) x ∙ y))))
    (λ (y : same a.y b.y ≡ false). let p = sq_pos dy (differ a.y b.y y) in let q = sq-≥0 dx in omega (zl, sum (sq dx) (sq dy)))
    (decide (same a.y b.y)))
    (λ (x : same a.x b.x ≡ false). let p = sq_pos dx (differ a.x b.x x) in let q = sq-≥0 dy in omega (zl, sum (sq dx) (sq dy)))
    (decide (same a.x b.x))

abbrev :sq : Expr → Expr
:sq e = e :* e

module _ (a b z : Spot) (e : blocks a b z ≡ true) where
  abbrev ρ : List ℤ
  ρ = a.x ∷ a.y ∷ b.x ∷ b.y ∷ z.x ∷ z.y ∷ []

  abbrev :dot : Expr
  :dot = (v0 :- v4) :* (v2 :- v4) :+ (v1 :- v5) :* (v3 :- v5)

  in_circle : dot a b z ≤ℤ pos 0
  unfolding blocks
  in_circle = let h : le_z (dot a b z) (pos 0) ≡ true = and_left (le_z (dot a b z) (pos 0)) (not (same_spot z a)) (and_left (le_z (dot a b z) (pos 0) && not (same_spot z a)) (not (same_spot z b)) e) in omega zl

  off_left : not (same_spot z a) ≡ true
  unfolding blocks
  off_left = and_right (le_z (dot a b z) (pos 0)) (not (same_spot z a)) (and_left (le_z (dot a b z) (pos 0) && not (same_spot z a)) (not (same_spot z b)) e)

  off_right : not (same_spot z b) ≡ true
  unfolding blocks
  off_right = and_right (le_z (dot a b z) (pos 0) && not (same_spot z a)) (not (same_spot z b)) e

  pub nearer_left : size a z <ℤ size a b
  nearer_left =
      of_lt ρ (:sq (v0 :- v4) :+ :sq (v1 :- v5)) (:sq (v0 :- v2) :+ :sq (v1 :- v3))
      (omega (arith, to_le ρ :dot (con (pos 0)) in_circle, to_lt ρ (con (pos 0)) (:sq (v4 :- v2) :+ :sq (v5 :- v3)) (apart z b off_right)))

  pub nearer_right : size z b <ℤ size a b
  nearer_right =
      of_lt ρ (:sq (v4 :- v2) :+ :sq (v5 :- v3)) (:sq (v0 :- v2) :+ :sq (v1 :- v3))
      (omega (arith, to_le ρ :dot (con (pos 0)) in_circle, to_lt ρ (con (pos 0)) (:sq (v4 :- v0) :+ :sq (v5 :- v1)) (apart z a off_left)))
