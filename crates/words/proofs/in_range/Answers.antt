use Rattle.std.proofs.Common.{◌≡◌, refl, ◌∙◌, false, pos}
use Rattle.std.specs.Int.Signed.{lt_z}
use mir.Syntax.{w32}
use mir.ValLaws.{to_z-of_z}
use Rattle.words.specs.Range.{coord_word}
use Rattle.words.proofs.Signs.{up_from, down_from}
use Rattle.words.proofs.RangeLaws.{range_none, low_end, low_fits}
use Rattle.words.proofs.in_range.Goals as goal

pub returns-else-c-ge0 : goal.returns-else-c-ge0
returns-else-c-ge0 c =
    let e = to_z-of_z w32 _ c.ranges.c in
    let t = rw e at c.if-c-ge0.false in
    c.if-c-ge0.false ∙ range_none _ _ (down_from {x = c.args.c} refl t)

pub returns-then-c-ge0 : goal.returns-then-c-ge0
unfolding coord_word
returns-then-c-ge0 c =
    let s = c in
    let e = to_z-of_z w32 _ s.ranges.c in
    let t = rw e at c.if-c-ge0.true in
    let g : lt_z s.args.c (pos 0) ≡ false = up_from {x = c.args.c} refl t in
    c.within.ensures ∙ rw (e, to_z-of_z w32 _ s.ranges.x, to_z-of_z w32 _ (low_fits _ s.ranges.c g), low_end _)
