use borrow.Author.Tests.{eq-eqb, ne_eqb}
use Rattle.sheet.specs.Layout.{root_word}
use Rattle.sheet.proofs.trailer.root_word.Goals as goal

-- src/trailer.rt:21:9
pub returns-then-m-eq0 : goal.returns-then-m-eq0
unfolding root_word
returns-then-m-eq0 c = rw (eq-eqb _ _ c.if-m-eq0.true)

-- src/trailer.rt:17:1
pub returns : goal.returns
unfolding root_word
returns c = rw (ne_eqb _ _ c.if-m-eq0.false)
