-- `plane::dot_of` meets its contract. Assumes nothing.
use mathlib.Core.List.{List, [], ◌∷◌}
use mir.Syntax.{w64}
use Prim.Native.Nat.{ℕ}
use lib.IntN.{ℤ}
use Rattle.integers.proofs.Solver.{◌:+◌, ◌:-◌, ◌:*◌, v0, v1, v2, v3, v4, v5}
use Rattle.integers.proofs.Mach.{Each, fits, runs}
use Rattle.plane.specs.declared.Spot.{Spot}
use Rattle.plane.specs.Rule.{SpotIn}
use Rattle.plane.proofs.dot_of.Goals as goal

abbrev ρ : Spot → Spot → Spot → List ℤ
ρ a b z = a.x ∷ a.y ∷ b.x ∷ b.y ∷ z.x ∷ z.y ∷ []

abbrev β : List ℕ
β = 1_000_000_000 ∷ 1_000_000_000 ∷ 1_000_000_000 ∷ 1_000_000_000 ∷ 1_000_000_000 ∷ 1_000_000_000 ∷ []

each : (a b z : Spot) → SpotIn a × SpotIn b × SpotIn z → Each (ρ a b z) β
each a b z s = (s.0.x_in, (s.0.y_in, (s.1.x_in, (s.1.y_in, (s.2.x_in, (s.2.y_in, tt))))))

pub overflow_mul-result : goal.overflow_mul-result
overflow_mul-result c = let s = c in fits w64 (ρ s.args.a s.args.b s.args.z) β (each s.args.a s.args.b s.args.z s.requires) ((v0 :- v4) :* (v2 :- v4)) tt

pub overflow_mul-result-2 : goal.overflow_mul-result-2
overflow_mul-result-2 c = let s = c in fits w64 (ρ s.args.a s.args.b s.args.z) β (each s.args.a s.args.b s.args.z s.requires) ((v1 :- v5) :* (v3 :- v5)) tt

pub overflow_add-result : goal.overflow_add-result
overflow_add-result c = let s = c in fits w64 (ρ s.args.a s.args.b s.args.z) β (each s.args.a s.args.b s.args.z s.requires) ((v0 :- v4) :* (v2 :- v4) :+ (v1 :- v5) :* (v3 :- v5)) tt

pub returns : goal.returns
returns c = let s = c in runs w64 (ρ s.args.a s.args.b s.args.z) β (each s.args.a s.args.b s.args.z s.requires) ((v0 :- v4) :* (v2 :- v4) :+ (v1 :- v5) :* (v3 :- v5)) tt
