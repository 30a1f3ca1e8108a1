-- `outward::waiting::box_distance` meets its contract: the machine's numbers are those of the definition, and the sum of the squares fits. Assumes nothing.
use mathlib.Core.Path.{◌≡◌}
use mathlib.Core.List.{List, [], ◌∷◌}
use Prim.Native.Nat.{ℕ}
use lib.IntN.{ℤ, pos}
use mir.Syntax.{w64}
use Rattle.integers.proofs.Solver.{v0, v1, v2, v3, v4, v5}
use Rattle.integers.proofs.Mach.{Each, runs}
use Rattle.plane.specs.Rule.{sq, out}
use Rattle.plane.proofs.FarLaws.{out_same}
use Rattle.outward.proofs.WaitingLaws.{away_fits, away_is}
use Rattle.outward.proofs.waiting.box_distance.Goals as goal

abbrev β : List ℕ
β = 1_000_000_000 ∷ 1_000_000_000 ∷ 1_000_000_000 ∷ 1_000_000_000 ∷ 1_000_000_000 ∷ 1_000_000_000 ∷ []

pub overflow_add-result : goal.overflow_add-result
overflow_add-result c =
    let here : List ℤ = c.args.q.x ∷ c.args.q.y ∷ c.args.o.xmin ∷ c.args.o.ymin ∷ c.args.o.xmax ∷ c.args.o.ymax ∷ [] in
    let each : Each here β = let p = c.requires in (p.0.x_in, (p.0.y_in, (p.1.xmin_in, (p.1.ymin_in, (p.1.xmax_in, (p.1.ymax_in, tt)))))) in
    let x-is : pos c.square_out-x.result ≡ sq (out c.args.o.xmin c.args.o.xmax c.args.q.x) = let s = c in
    out_same _ _ _ _ _ _ _ (runs w64 here β each v2 tt) (runs w64 here β each v4 tt) (runs w64 here β each v0 tt) c.square_out-x.ensures in
    let y-is : pos c.square_out-y.result ≡ sq (out c.args.o.ymin c.args.o.ymax c.args.q.y) = let s = c in
    out_same _ _ _ _ _ _ _ (runs w64 here β each v3 tt) (runs w64 here β each v5 tt) (runs w64 here β each v1 tt) c.square_out-y.ensures in
    let s = c in
    record { fits = away_fits s.args.q s.args.o _ _ s.requires.0 s.requires.1 x-is y-is }

pub returns : goal.returns
returns c =
    let here : List ℤ = c.args.q.x ∷ c.args.q.y ∷ c.args.o.xmin ∷ c.args.o.ymin ∷ c.args.o.xmax ∷ c.args.o.ymax ∷ [] in
    let each : Each here β = let p = c.requires in (p.0.x_in, (p.0.y_in, (p.1.xmin_in, (p.1.ymin_in, (p.1.xmax_in, (p.1.ymax_in, tt)))))) in
    let x-is : pos c.square_out-x.result ≡ sq (out c.args.o.xmin c.args.o.xmax c.args.q.x) = let s = c in
    out_same _ _ _ _ _ _ _ (runs w64 here β each v2 tt) (runs w64 here β each v4 tt) (runs w64 here β each v0 tt) c.square_out-x.ensures in
    let y-is : pos c.square_out-y.result ≡ sq (out c.args.o.ymin c.args.o.ymax c.args.q.y) = let s = c in
    out_same _ _ _ _ _ _ _ (runs w64 here β each v3 tt) (runs w64 here β each v5 tt) (runs w64 here β each v1 tt) c.square_out-y.ensures in
    let s = c in away_is s.args.q s.args.o _ _ s.requires.0 s.requires.1 x-is y-is
