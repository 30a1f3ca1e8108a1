-- `plane::is_far` meets its contract: the machine's numbers are those of the definition, and one axis after the other decides. Assumes nothing.
use mathlib.Core.Path.{sym, subst}
use mathlib.Core.List.{List, [], ◌∷◌}
use Prim.Native.Nat.{ℕ}
use lib.IntN.{ℤ, pos}
use mir.Syntax.{w64}
use Rattle.integers.specs.Bounds.{Within}
use Rattle.integers.proofs.Solver.{Expr, con, ◌:+◌, ◌:*◌, v0, v1, v2, v3, v4, v5, v6, v7}
use Rattle.integers.proofs.Mach.{Each, fits, runs, eval_in}
use Rattle.plane.specs.declared.Spot.{Spot}
use Rattle.plane.specs.declared.Boxed.{Boxed}
use Rattle.plane.proofs.FarLaws.{out_same, far_by_x, far_by_y}
use Rattle.plane.proofs.is_far.Goals as goal

abbrev ρ : Spot → Spot → Boxed → List ℤ
ρ a b o = a.x ∷ a.y ∷ b.x ∷ b.y ∷ o.xmin ∷ o.ymin ∷ o.xmax ∷ o.ymax ∷ []

abbrev β : List ℕ
β = 1_000_000_000 ∷ 1_000_000_000 ∷ 1_000_000_000 ∷ 1_000_000_000 ∷ 1_000_000_000 ∷ 1_000_000_000 ∷ 1_000_000_000 ∷ 1_000_000_000 ∷ []

abbrev twice : Expr → Expr
twice e = con (pos 2) :* e

-- src/lib.rt:154:9
pub square_out-x-requires : goal.square_out-x-requires
square_out-x-requires c =
    let each : Each (ρ c.args.a c.args.b c.args.o) β = let s = c.requires in (s.0.x_in, (s.0.y_in, (s.1.x_in, (s.1.y_in, (s.2.xmin_in, (s.2.ymin_in, (s.2.xmax_in, (s.2.ymax_in, tt)))))))) in
    let here : List ℤ = ρ c.args.a c.args.b c.args.o in
    let s = c in (subst (Within 2_000_000_000) (sym (runs w64 here β each (twice v4) tt)) (eval_in here β each (twice v4)), subst (Within 2_000_000_000) (sym (runs w64 here β each (twice v6) tt)) (eval_in here β each (twice v6)), subst (Within 2_000_000_000) (sym (runs w64 here β each (v0 :+ v2) tt)) (eval_in here β each (v0 :+ v2)))

-- src/lib.rt:155:24
pub overflow_mul-o-3 : goal.overflow_mul-o-3
overflow_mul-o-3 c =
    let each : Each (ρ c.args.a c.args.b c.args.o) β = let s = c.requires in (s.0.x_in, (s.0.y_in, (s.1.x_in, (s.1.y_in, (s.2.xmin_in, (s.2.ymin_in, (s.2.xmax_in, (s.2.ymax_in, tt)))))))) in
    let here : List ℤ = ρ c.args.a c.args.b c.args.o in
    let s = c in fits w64 here β each (twice v5) tt

-- src/lib.rt:155:36
pub overflow_mul-o-4 : goal.overflow_mul-o-4
overflow_mul-o-4 c =
    let each : Each (ρ c.args.a c.args.b c.args.o) β = let s = c.requires in (s.0.x_in, (s.0.y_in, (s.1.x_in, (s.1.y_in, (s.2.xmin_in, (s.2.ymin_in, (s.2.xmax_in, (s.2.ymax_in, tt)))))))) in
    let here : List ℤ = ρ c.args.a c.args.b c.args.o in
    let s = c in fits w64 here β each (twice v7) tt

-- src/lib.rt:155:9
pub square_out-y-requires : goal.square_out-y-requires
square_out-y-requires c =
    let each : Each (ρ c.args.a c.args.b c.args.o) β = let s = c.requires in (s.0.x_in, (s.0.y_in, (s.1.x_in, (s.1.y_in, (s.2.xmin_in, (s.2.ymin_in, (s.2.xmax_in, (s.2.ymax_in, tt)))))))) in
    let here : List ℤ = ρ c.args.a c.args.b c.args.o in
    let s = c in (subst (Within 2_000_000_000) (sym (runs w64 here β each (twice v5) tt)) (eval_in here β each (twice v5)), subst (Within 2_000_000_000) (sym (runs w64 here β each (twice v7) tt)) (eval_in here β each (twice v7)), subst (Within 2_000_000_000) (sym (runs w64 here β each (v1 :+ v3) tt)) (eval_in here β each (v1 :+ v3)))

-- src/lib.rt:157:9
pub returns-then-x-d : goal.returns-then-x-d
returns-then-x-d c =
    let each : Each (ρ c.args.a c.args.b c.args.o) β = let s = c.requires in (s.0.x_in, (s.0.y_in, (s.1.x_in, (s.1.y_in, (s.2.xmin_in, (s.2.ymin_in, (s.2.xmax_in, (s.2.ymax_in, tt)))))))) in
    let here : List ℤ = ρ c.args.a c.args.b c.args.o in
    let s = c in far_by_x s.args.a s.args.b s.args.o _ _ _ c.diameter-d.ensures (out_same _ _ _ _ _ _ _ (runs w64 here β each (twice v4) tt) (runs w64 here β each (twice v6) tt) (runs w64 here β each (v0 :+ v2) tt) c.square_out-x.ensures) (out_same _ _ _ _ _ _ _ (runs w64 here β each (twice v5) tt) (runs w64 here β each (twice v7) tt) (runs w64 here β each (v1 :+ v3) tt) c.square_out-y.ensures) c.if-x-d.true

-- src/lib.rt:149:1
pub returns : goal.returns
returns c =
    let each : Each (ρ c.args.a c.args.b c.args.o) β = let s = c.requires in (s.0.x_in, (s.0.y_in, (s.1.x_in, (s.1.y_in, (s.2.xmin_in, (s.2.ymin_in, (s.2.xmax_in, (s.2.ymax_in, tt)))))))) in
    let here : List ℤ = ρ c.args.a c.args.b c.args.o in
    let s = c in far_by_y s.args.a s.args.b s.args.o _ _ _ c.diameter-d.ensures (out_same _ _ _ _ _ _ _ (runs w64 here β each (twice v4) tt) (runs w64 here β each (twice v6) tt) (runs w64 here β each (v0 :+ v2) tt) c.square_out-x.ensures) (out_same _ _ _ _ _ _ _ (runs w64 here β each (twice v5) tt) (runs w64 here β each (twice v7) tt) (runs w64 here β each (v1 :+ v3) tt) c.square_out-y.ensures) c.if-x-d.false
