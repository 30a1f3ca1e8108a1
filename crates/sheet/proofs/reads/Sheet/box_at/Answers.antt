use Rattle.integers.proofs.Cast.{result_is}
use Rattle.sheet.specs.Boxes.{side_of}
use Rattle.sheet.specs.Places.{box_of}
use Rattle.sheet.proofs.reads.Sheet.box_at.Goals as goal

-- src/reads.rt:91:1
pub returns : goal.returns
unfolding box_of side_of
returns c =
    let a = result_is c.word.type_inv c.word.ensures in
    let b = result_is c.word-2.type_inv c.word-2.ensures in
    let d = result_is c.word-3.type_inv c.word-3.ensures in
    let e = result_is c.word-4.type_inv c.word-4.ensures in
    λ i. record { xmin = a i; ymin = b i; xmax = d i; ymax = e i }
