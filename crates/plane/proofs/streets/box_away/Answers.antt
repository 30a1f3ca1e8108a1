-- `plane::streets::box_away` meets its contract. Assumes nothing.
use mathlib.Core.Path.{ap, ◌∙◌}
use mathlib.Core.List.{List, [], ◌∷◌}
use Prim.Native.Nat.{ℕ, ◌+◌}
use lib.IntN.{ℤ, pos, nat_abs}
use mir.Syntax.{w64}
use Rattle.integers.proofs.Solver.{Expr, con, ◌:+◌, ◌:*◌, v0, v1, v2, v3, v4, v5, v6, v7}
use Rattle.integers.proofs.Mach.{Each, runs}
use Rattle.plane.specs.Rule.{out}
use Rattle.plane.proofs.streets.box_away.Goals as goal

abbrev β : List ℕ
β = 1_000_000_000 ∷ 1_000_000_000 ∷ 1_000_000_000 ∷ 1_000_000_000 ∷ 1_000_000_000 ∷ 1_000_000_000 ∷ 1_000_000_000 ∷ 1_000_000_000 ∷ []

abbrev twice : Expr → Expr
twice e = con (pos 2) :* e

pub returns : goal.returns
returns c =
    let ρ : List ℤ = c.args.a.x ∷ c.args.a.y ∷ c.args.b.x ∷ c.args.b.y ∷ c.args.o.xmin ∷ c.args.o.ymin ∷ c.args.o.xmax ∷ c.args.o.ymax ∷ [] in
    let each : Each ρ β = let s = c.requires in (s.0.x_in, (s.0.y_in, (s.1.x_in, (s.1.y_in, (s.2.xmin_in, (s.2.ymin_in, (s.2.xmax_in, (s.2.ymax_in, tt)))))))) in
    let s = c in
    let x = ap nat_abs (c.how_far.ensures.0 ∙ (λ i. out (runs w64 ρ β each (twice v4) tt i) (runs w64 ρ β each (twice v6) tt i) (runs w64 ρ β each (v0 :+ v2) tt i))) in
    let y = ap nat_abs (c.how_far-2.ensures.0 ∙ (λ i. out (runs w64 ρ β each (twice v5) tt i) (runs w64 ρ β each (twice v7) tt i) (runs w64 ρ β each (v1 :+ v3) tt i))) in
    λ i. x i + y i
