use mathlib.Core.Bool.{not}
use mathlib.Core.Path.{ap, ◌∙◌}
use Rattle.integers.proofs.Bools.{passed, failed}
use Rattle.words.specs.Word.{num, is_below}
use Rattle.words.proofs.Signs.{handed}
use Rattle.pack.proofs.OrderLaws.{list_range}
use Rattle.pack.proofs.SeenLaws.{in_front, past_front, front_word, in_room, seen_more, seen_twice, seen_done}
use Rattle.pack.proofs.order.each_once.Goals as goal

pub returns-then-not-below : goal.returns-then-not-below
returns-then-not-below c =
    let k = in_front _ _ _ c.requires.0 c.loop-w-test.true in
    let e = handed c.w-1.given (front_word _ _ _ k) in
    list_range _ _ _ k (failed (c.below.ensures ∙ ap (is_below _) e) (ap not c.if-not-below.true))

pub bounds-seen-i : goal.bounds-seen-i
bounds-seen-i c = in_room _ c.loop-w.invariant (passed c.below.ensures (ap not c.if-not-below.false)) c.num-i.ensures.value

pub returns-then-seen-i : goal.returns-then-seen-i
returns-then-seen-i c =
    let k = in_front _ _ _ c.requires.0 c.loop-w-test.true in
    let e = handed c.w-1.given (front_word _ _ _ k) in
    seen_twice _ _ _ _ _ c.loop-w.invariant k (passed (c.below.ensures ∙ ap (is_below _) e) (ap not c.if-not-below.false)) (rw (c.num-i.ensures.value ∙ ap num e) at c.if-seen-i.true)

pub bounds-seen-i-in-loop-w : goal.bounds-seen-i-in-loop-w
bounds-seen-i-in-loop-w c = in_room _ c.loop-w.invariant (passed c.below.ensures (ap not c.if-not-below.false)) c.num-i.ensures.value

pub loop-w-preserved : goal.loop-w-preserved
loop-w-preserved c =
    let k = in_front _ _ _ c.requires.0 c.loop-w-test.true in
    let e = handed c.w-1.given (front_word _ _ _ k) in
    let i = c.num-i.ensures.value ∙ ap num e in
    rw i (seen_more _ _ _ _ _ c.loop-w.invariant k (passed (c.below.ensures ∙ ap (is_below _) e) (ap not c.if-not-below.false)) (rw i at c.if-seen-i.false))

pub returns : goal.returns
returns c = seen_done _ _ _ _ _ c.loop-w.invariant (past_front _ _ _ c.requires.0 c.loop-w-test.false)
