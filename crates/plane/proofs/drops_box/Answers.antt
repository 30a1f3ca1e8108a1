-- `plane::drops_box` meets its contract. Assumes nothing.
use mathlib.Core.Path.{◌≡◌, ap, ◌∙◌}
use mir.Syntax.{w64}
use mir.Val.{to_z, of_z}
use Rattle.integers.proofs.Cast.{result_is}
use Rattle.plane.specs.declared.Spot.{Spot}
use Rattle.plane.specs.Rule.{dot, far_corner}
use Rattle.plane.proofs.TestLaws.{front_no, behind_yes, line_places}
use Rattle.plane.proofs.drops_box.Goals as goal

pub returns-then-d-gt0 : goal.returns-then-d-gt0
returns-then-d-gt0 c =
    let said : let s = c in to_z w64 (of_z w64 c.dot_of-d.result) ≡ dot s.args.q (far_corner s.args.q s.args.p s.args.o) s.args.p = let s = c in
    result_is c.dot_of-d.type_inv (c.dot_of-d.ensures ∙ ap (λ (z : Spot). dot s.args.q z s.args.p) c.far_corner.ensures.0) in
    front_no _ _ _ c.requires.2 _ said c.if-d-gt0.true

pub returns-then-d-lt0 : goal.returns-then-d-lt0
returns-then-d-lt0 c =
    let said : let s = c in to_z w64 (of_z w64 c.dot_of-d.result) ≡ dot s.args.q (far_corner s.args.q s.args.p s.args.o) s.args.p = let s = c in
    result_is c.dot_of-d.type_inv (c.dot_of-d.ensures ∙ ap (λ (z : Spot). dot s.args.q z s.args.p) c.far_corner.ensures.0) in
    behind_yes _ _ _ c.requires.2 _ said c.if-d-lt0.true

pub returns : goal.returns
returns c =
    let said : let s = c in to_z w64 (of_z w64 c.dot_of-d.result) ≡ dot s.args.q (far_corner s.args.q s.args.p s.args.o) s.args.p = let s = c in
    result_is c.dot_of-d.type_inv (c.dot_of-d.ensures ∙ ap (λ (z : Spot). dot s.args.q z s.args.p) c.far_corner.ensures.0) in
    let d = c in
    line_places _ _ _ d.requires.2 _ said c.is_same.ensures c.is_in.ensures c.if-d-gt0.false
