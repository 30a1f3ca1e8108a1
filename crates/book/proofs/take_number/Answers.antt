use mathlib.Core.Path.{sym, ◌∙◌}
use borrow.Author.Tests.{not-true, not-false}
use Rattle.book.specs.Rules.{same_key}
use Rattle.book.proofs.CoreLaws.{is_11, is_12, is_13, is_14, is_15, is_16, is_0}
use Rattle.book.proofs.take_number.Goals as goal

pub returns-then-len-b : goal.returns-then-len-b
returns-then-len-b c = is_11 _ _ _ _ c.if-len-b.true

pub returns-then-b : goal.returns-then-b
returns-then-b c = is_12 _ _ _ _ c.if-len-b.false c.if-b.true

pub returns-then-no-ne0 : goal.returns-then-no-ne0
returns-then-no-ne0 c = is_13 _ _ _ _ c.if-len-b.false c.if-b.false _ c.source_no-no.ensures c.if-no-ne0.true

pub returns-then-ne : goal.returns-then-ne
unfolding same_key
returns-then-ne c =
    is_14 _ _ _ _ c.if-len-b.false c.if-b.false (sym c.source_no-no.ensures ∙ c.if-no-ne0.false) (not-true _ (sym c.ne.ensures ∙ c.if-ne.true))

pub returns-then-is_bad : goal.returns-then-is_bad
unfolding same_key
returns-then-is_bad c =
    is_15 _ _ _ _ c.if-len-b.false c.if-b.false (sym c.source_no-no.ensures ∙ c.if-no-ne0.false) (not-false _ (sym c.ne.ensures ∙ c.if-ne.false))
    (sym c.is_bad.ensures ∙ c.if-is_bad.true)

pub returns-then-len-b-2 : goal.returns-then-len-b-2
unfolding same_key
returns-then-len-b-2 c =
    is_16 _ _ _ _ c.if-len-b.false c.if-b.false (sym c.source_no-no.ensures ∙ c.if-no-ne0.false) (not-false _ (sym c.ne.ensures ∙ c.if-ne.false))
    (sym c.is_bad.ensures ∙ c.if-is_bad.false) c.if-len-b-2.true

pub returns : goal.returns
unfolding same_key
returns c =
    is_0 _ _ _ _ c.if-len-b.false c.if-b.false (sym c.source_no-no.ensures ∙ c.if-no-ne0.false) (not-false _ (sym c.ne.ensures ∙ c.if-ne.false))
    (sym c.is_bad.ensures ∙ c.if-is_bad.false) c.if-len-b-2.false
