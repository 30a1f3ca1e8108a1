-- `book::Book::take` meets its contract: what is decided is that of the slots lent, and a page that is taken is copied from the held ones on.
-- Assumes nothing.
use mathlib.Core.Path.{◌∙◌}
use native.Mathlib.Omega.{arith}
use borrow.Author.Rules.{rules}
use Prim.Native.Nat.{◌+◌, ◌≤◌}
use lib.ListN.{length}
use Rattle.book.proofs.CoreLaws.{take_fits, copied, answer_is, slots_are, slots_left}
use Rattle.book.proofs.Book.take.Goals as goal
use Rattle.book.proofs.Book.take.Goals.{then-d-eq0, else-d-eq0}

pub overflow_add-self : goal.overflow_add-self
overflow_add-self c =
    let h = take_fits _ _ _ _ c.last_key.ensures _ c.decide-d.ensures c.if-d-eq0.true in
    let room : c.args.self.held + c.decide-d.result.n ≤ length c.args.slots.now = h.1 in
    search rules

pub offset_bounds-slots-self : goal.offset_bounds-slots-self
offset_bounds-slots-self c =
    let h = take_fits _ _ _ _ c.last_key.ensures _ c.decide-d.ensures c.if-d-eq0.true in
    let room : c.args.self.held ≤ length c.args.slots.now = omega (arith, h.1) in
    search rules

pub slice_bounds-copy-end : goal.slice_bounds-copy-end
slice_bounds-copy-end c =
    let h = take_fits _ _ _ _ c.last_key.ensures _ c.decide-d.ensures c.if-d-eq0.true in
    omega (arith, h.1)

pub shared_ref_as_front-copy : goal.shared_ref_as_front-copy
shared_ref_as_front-copy c = (take_fits _ _ _ _ c.last_key.ensures _ c.decide-d.ensures c.if-d-eq0.true).0

pub slice_bounds-copy-end-then-d-eq0 : goal.slice_bounds-copy-end-then-d-eq0
slice_bounds-copy-end-then-d-eq0 c =
    let h = take_fits _ _ _ _ c.last_key.ensures _ c.decide-d.ensures c.if-d-eq0.true in
    omega (arith, h.1)

pub returns : goal.returns
returns c = (
  answer_is _ _ _ _ c.last_key.ensures _ c.decide-d.ensures,
  elim c.if-d-eq0.branch [
    | then-d-eq0 w ↦ w.slots-is ∙ copied _ _ _ _ _ w.copy.ensures.after ∙ slots_are _ _ _ _ c.last_key.ensures _ c.decide-d.ensures
    | else-d-eq0 w ↦ w.slots-is ∙ slots_left _ _ _ _ c.last_key.ensures _ c.decide-d.ensures w.if-d-eq0.false
  ],
)
