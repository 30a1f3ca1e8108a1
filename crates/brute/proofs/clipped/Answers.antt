-- `brute::clipped` meets its contract. Assumes nothing.
use Rattle.std.proofs.Common.{sym, ◌∙◌}
use mir.Facts.{to_z-of_z}
use Rattle.integers.proofs.Cast.{result_is}
use Rattle.words.proofs.ContainsLaws.{in_words}
use Rattle.brute.proofs.Distances.{clip_is, clip_out, clip_in}
use Rattle.brute.proofs.clipped.Goals as goal

pub returns-then-contains : goal.returns-then-contains
returns-then-contains c =
    let s = c.new.ensures in
    let t = rw (to_z-of_z c.ranges.w) at c.contains.ensures.value ∙ in_words c.new.result _ _ _ s.start s.end s.exhausted in
    (result_is c.from.type_inv (c.from.ensures ∙ to_z-of_z c.ranges.w) ∙ clip_is _ (sym t ∙ c.if-contains.true), clip_in _)

pub returns-else-contains : goal.returns-else-contains
returns-else-contains c =
    let s = c.new.ensures in
    let t = rw (to_z-of_z c.ranges.w) at c.contains.ensures.value ∙ in_words c.new.result _ _ _ s.start s.end s.exhausted in
    (clip_out _ (sym t ∙ c.if-contains.false), clip_in _)
