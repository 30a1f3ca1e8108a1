use mathlib.Core.Bool.{not}
use mathlib.Core.Path.{ap, ◌∙◌}
use native.Mathlib.Omega.{arith}
use Rattle.words.specs.Word.{num, is_below}
use Rattle.words.proofs.Signs.{handed}
use Rattle.sheet.specs.Order.{rank_of}
use Rattle.sheet.proofs.OrderLaws.{place_not, place_rank, place_is}
use Rattle.sheet.proofs.order.place_ok.Goals as goal

pub returns-then-not-below : goal.returns-then-not-below
returns-then-not-below c =
    let e = c.below.ensures ∙ ap (is_below _) (handed c.word-o.type_inv c.word-o.ensures) in
    let r = handed c.word-r.type_inv c.word-r.ensures in
    let f = c.below-2.ensures ∙ ap (is_below _) r in
    place_not _ _ _ e f (ap not c.if-not-below.true)

pub word-requires : goal.word-requires
unfolding rank_of
word-requires c =
    let e = c.below.ensures ∙ ap (is_below _) (handed c.word-o.type_inv c.word-o.ensures) in
    let r = handed c.word-r.type_inv c.word-r.ensures in
    let f = c.below-2.ensures ∙ ap (is_below _) r in
    let s = c.args in
    let h = place_rank s.s.now s.n s.i e f (ap not c.if-not-below.false) in
    omega (arith, h, c.num.ensures.value ∙ ap num r)

pub returns : goal.returns
unfolding rank_of
returns c =
    let e = c.below.ensures ∙ ap (is_below _) (handed c.word-o.type_inv c.word-o.ensures) in
    let r = handed c.word-r.type_inv c.word-r.ensures in
    let f = c.below-2.ensures ∙ ap (is_below _) r in
    let k = c.num.ensures.value ∙ ap num r in
    let z = handed c.word.type_inv c.word.ensures in
    c.is_count.ensures ∙ rw (z, k) (place_is _ _ _ e f (ap not c.if-not-below.false))
