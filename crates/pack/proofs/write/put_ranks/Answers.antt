use lib.ListN.{length-set}
use Rattle.words.proofs.Signs.{handed}
use Rattle.pack.proofs.PackedLaws.{ranked_more, ranked_done}
use Rattle.pack.proofs.write.put_ranks.Goals as goal

pub loop-k-preserved : goal.loop-k-preserved
loop-k-preserved c = (
  simp length-set c.loop-k.invariant.0,
  λ p h. rw c.position.ensures.value (ranked_more _ _ _ _ _ _ c.requires.3 (c.loop-k.invariant.1 p h) _ c.loop-k-test.true (handed c.word.type_inv c.word.ensures)),
)

pub returns : goal.returns
returns c = λ p h. ranked_done _ _ _ _ _ _ c.requires.3 (c.loop-k.invariant.1 p h) c.loop-k-test.false
