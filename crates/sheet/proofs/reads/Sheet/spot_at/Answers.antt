use Rattle.integers.proofs.Cast.{result_is}
use Rattle.sheet.specs.Places.{spot_of}
use Rattle.sheet.proofs.reads.Sheet.spot_at.Goals as goal

-- src/reads.rt:42:1
pub returns : goal.returns
unfolding spot_of
returns c =
    let x = result_is c.word.type_inv c.word.ensures in
    let y = result_is c.word-2.type_inv c.word-2.ensures in
    λ i. record { x = x i; y = y i }
