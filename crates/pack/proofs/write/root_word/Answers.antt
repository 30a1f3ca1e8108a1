use borrow.Author.Tests.{eq-eqb, ne_eqb}
use Rattle.sheet.specs.Layout.{root_word}
use Rattle.pack.proofs.write.root_word.Goals as goal

pub returns-then-m-eq0 : goal.returns-then-m-eq0
unfolding root_word
returns-then-m-eq0 c = rw (eq-eqb _ 0 c.if-m-eq0.true)

pub returns : goal.returns
unfolding root_word
returns c = rw (ne_eqb _ 0 c.if-m-eq0.false)
