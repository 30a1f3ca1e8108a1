-- `words::within` meets its contract. Assumes nothing.
use Rattle.std.proofs.Common.{◌∙◌}
use mir.Syntax.{w32}
use mir.ValLaws.{to_z-of_z}
use Rattle.words.proofs.ContainsLaws.{in_words}
use Rattle.words.proofs.within.Goals as goal

pub returns : goal.returns
returns c =
    let s = c.new.ensures in
    rw (to_z-of_z w32 _ c.ranges.x) at c.contains.ensures.value
    ∙ in_words c.new.result _ _ _ (s.start ∙ to_z-of_z w32 _ c.ranges.lo) (s.end ∙ to_z-of_z w32 _ c.ranges.hi) s.exhausted
