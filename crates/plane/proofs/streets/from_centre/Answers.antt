-- `plane::streets::from_centre` meets its contract. Assumes nothing.
use mathlib.Core.Path.{◌∙◌}
use mathlib.Core.List.{List, [], ◌∷◌}
use Prim.Native.Nat.{ℕ, ◌+◌}
use lib.IntN.{ℤ, pos, nat_abs, ◌-ℤ◌}
use mir.Syntax.{w64}
use Rattle.integers.proofs.Solver.{Expr, con, ◌:+◌, ◌:*◌, v0, v1, v2, v3, v4, v5}
use Rattle.integers.proofs.Mach.{Each, runs}
use Rattle.plane.proofs.streets.from_centre.Goals as goal

abbrev β : List ℕ
β = 1_000_000_000 ∷ 1_000_000_000 ∷ 1_000_000_000 ∷ 1_000_000_000 ∷ 1_000_000_000 ∷ 1_000_000_000 ∷ []

abbrev twice : Expr → Expr
twice e = con (pos 2) :* e

pub returns : goal.returns
returns c =
    let ρ : List ℤ = c.args.a.x ∷ c.args.a.y ∷ c.args.b.x ∷ c.args.b.y ∷ c.args.z.x ∷ c.args.z.y ∷ [] in
    let each : Each ρ β = let s = c.requires in (s.0.x_in, (s.0.y_in, (s.1.x_in, (s.1.y_in, (s.2.x_in, (s.2.y_in, tt)))))) in
    let s = c in
    let x = c.between.ensures.0 ∙ (λ i. nat_abs (runs w64 ρ β each (twice v4) tt i -ℤ runs w64 ρ β each (v0 :+ v2) tt i)) in
    let y = c.between-2.ensures.0 ∙ (λ i. nat_abs (runs w64 ρ β each (twice v5) tt i -ℤ runs w64 ρ β each (v1 :+ v3) tt i)) in
    λ i. x i + y i
