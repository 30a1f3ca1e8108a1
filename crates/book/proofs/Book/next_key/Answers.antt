use borrow.Author.Tests.{lt-ltb, le-ltb}
use Rattle.words.specs.First.{given, answer}
use Rattle.book.specs.Rules.{asked, asked_at, next_no}
use Rattle.book.proofs.Book.next_key.Goals as goal

pub returns-then-slots-self : goal.returns-then-slots-self
unfolding asked asked_at next_no given answer
returns-then-slots-self c = rw (lt-ltb _ _ c.if-slots-self.true)

pub returns-else-slots-self : goal.returns-else-slots-self
unfolding asked asked_at next_no given answer
returns-else-slots-self c = rw (le-ltb _ _ c.if-slots-self.false, c.last_key-key.ensures)
