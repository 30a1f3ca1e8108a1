-- `runs::finish` meets its contract: where there is an answer, the words that the run needed are set to 0. Assumes nothing.
use mathlib.Core.Path.{refl}
use Rattle.ring.proofs.LentLaws.{wiped_refused}
use Rattle.runs.proofs.DecideLaws.{run_wiped}
use Rattle.runs.proofs.finish.Goals as goal

pub returns-then-r-ne0 : goal.returns-then-r-ne0
returns-then-r-ne0 c = (refl, wiped_refused _ _ _ _ refl c.if-r-ne0.true)

pub returns : goal.returns
returns c =
    (refl, run_wiped c.args.p.now c.args.bits.now _ _ c.known-ps.ensures.1 c.words_for-w.ensures (c.requires c.if-r-ne0.false).1 _ c.clear.ensures _ c.if-r-ne0.false)
