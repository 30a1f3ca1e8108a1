-- `plane::does_block` meets its contract. Assumes nothing.
use mathlib.Core.Path.{◌≡◌}
use mir.Syntax.{w64}
use mir.Val.{to_z, of_z}
use Rattle.integers.proofs.Cast.{result_is}
use Rattle.plane.specs.Rule.{dot}
use Rattle.plane.proofs.TestLaws.{outside_no, inside_yes, circle_places}
use Rattle.plane.proofs.does_block.Goals as goal

pub returns-then-d-gt0 : goal.returns-then-d-gt0
returns-then-d-gt0 c =
    let said : to_z w64 (of_z w64 c.dot_of-d.result) ≡ dot c.args.a c.args.b c.args.z = result_is c.dot_of-d.type_inv c.dot_of-d.ensures in
    outside_no _ _ _ _ said c.if-d-gt0.true

pub returns-then-d-lt0 : goal.returns-then-d-lt0
returns-then-d-lt0 c =
    let said : to_z w64 (of_z w64 c.dot_of-d.result) ≡ dot c.args.a c.args.b c.args.z = result_is c.dot_of-d.type_inv c.dot_of-d.ensures in
    inside_yes _ _ _ _ said c.if-d-lt0.true

pub returns : goal.returns
returns c =
    let said : to_z w64 (of_z w64 c.dot_of-d.result) ≡ dot c.args.a c.args.b c.args.z = result_is c.dot_of-d.type_inv c.dot_of-d.ensures in
    circle_places _ _ _ _ said c.is_same.ensures c.is_same-2.ensures c.if-d-gt0.false
