-- `plane::is_in` meets its contract. Assumes nothing.
use Rattle.plane.proofs.TestLaws.{in_by}
use Rattle.plane.proofs.is_in.Goals as goal

pub returns : goal.returns
returns c =
    let s = c in
    in_by s.args.o s.args.z s.requires.0 s.requires.1
