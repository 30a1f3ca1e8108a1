-- `sheet::boxes::place_sides` meets its contract. Assumes nothing.
use Rattle.words.proofs.Signs.{handed}
use Rattle.sheet.proofs.BoxLaws.{place_sides}
use Rattle.sheet.proofs.boxes.place_sides.Goals as goal

pub returns : goal.returns
returns c =
    let x = c.word-x in
    let y = c.word-y in
    place_sides _ _ _ _ c.spot_of-at.ensures.value (handed x.type_inv x.ensures) (handed y.type_inv y.ensures)
