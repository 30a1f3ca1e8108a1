use Rattle.pack.proofs.PackedLaws.{points_put}
use Rattle.pack.proofs.write.put_points.Goals as goal

pub returns : goal.returns
returns c = λ o. points_put _ o c.args.out.now _ _ _ c.copy.ensures.after c.requires.1
