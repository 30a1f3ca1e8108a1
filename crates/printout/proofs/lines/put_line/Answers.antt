-- `printout::lines::put_line` meets its contract. Assumes nothing.
use mathlib.Core.Path.{subst}
use mathlib.Core.List.{List, [], ◌∷◌}
use Prim.Native.Nat.{ℕ}
use lib.IntN.{ℤ}
use mir.Syntax.{w64}
use Rattle.integers.proofs.Solver.{◌:+◌, v0, v1, v2, v3}
use Rattle.integers.proofs.Mach.{Each, runs}
use Rattle.text.specs.Text.{Grown, line_text}
use Rattle.printout.specs.Listing.{line_at}
use Rattle.printout.proofs.lines.put_line.Goals as goal

abbrev β : List ℕ
β = 1_000_000_000 ∷ 1_000_000_000 ∷ 1_000_000_000 ∷ 1_000_000_000 ∷ []

pub returns : goal.returns
unfolding line_at
returns c =
    let ρ : List ℤ = c.args.a.x ∷ c.args.b.x ∷ c.args.a.y ∷ c.args.b.y ∷ [] in
    let each : Each ρ β = (c.requires.0.x_in, (c.requires.1.x_in, (c.requires.0.y_in, (c.requires.1.y_in, tt)))) in
    let t = c in
    let s = t in
    let x = runs w64 ρ β each (v0 :+ v1) tt in
    let y = runs w64 ρ β each (v2 :+ v3) tt in record {
      grown = subst (Grown s.args.out.now s.args.at t.put_line.new.out t.put_line.result)
          (λ i. line_text s.args.v.q s.args.v.p (x i) (y i) s.args.v.size)
          t.put_line.ensures.grown;
      upper_bound = t.put_line.ensures.upper_bound;
    }
