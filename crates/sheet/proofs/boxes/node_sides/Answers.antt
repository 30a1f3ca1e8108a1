-- `sheet::boxes::node_sides` meets its contract. Assumes nothing.
use mathlib.Core.Path.{refl}
use Rattle.words.proofs.Signs.{handed}
use Rattle.sheet.proofs.BoxLaws.{node_sides}
use Rattle.sheet.proofs.boxes.node_sides.Goals as goal

pub returns : goal.returns
returns c =
    let x = c.word in
    let y = c.word-2 in
    let u = c.word-3 in
    let v = c.word-4 in
    node_sides _ _ _ _ refl (handed x.type_inv x.ensures) (handed y.type_inv y.ensures) (handed u.type_inv u.ensures) (handed v.type_inv v.ensures)
