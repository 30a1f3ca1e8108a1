-- `runs::made_saved` meets its contract: where the pairs outnumber the slots, the words are put back from their copy. Assumes nothing.
use mathlib.Core.Path.{refl, ◌∙◌}
use native.Mathlib.Omega.{arith}
use Rattle.runs.proofs.DecideLaws.{put_back, made_room, made_fits}
use Rattle.runs.proofs.made_saved.Goals as goal

pub returns-then-len-made : goal.returns-then-len-made
returns-then-len-made c =
    let back = put_back c.args.bits.now c.args.saved.now _ _ refl c.requires.1 c.copy_words.ensures c.run_made-made.new.bits (omega arith) in
    made_room _ _ _ _ _ _ _ c.run_made-made.ensures.1 c.if-len-made.true _ c.refused.ensures _ (c.copy_words-then-len-made.ensures ∙ back)

pub returns : goal.returns
returns c =
    made_fits _ _ _ _ _ _ _ c.run_made-made.ensures.1 c.if-len-made.false _ c.run_made-made.ensures.2 _ c.run_made-made.ensures.0
