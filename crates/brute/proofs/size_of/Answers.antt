-- `brute::size_of` meets its contract. Assumes nothing.
use mathlib.Core.Path.{ap₂, ◌∙◌}
use borrow.Author.Tests.{lt-ltb, le-ltb}
use Rattle.brute.specs.Brute.{span, size_of}
use Rattle.brute.proofs.size_of.Goals as goal

pub returns-then-v-q : goal.returns-then-v-q
unfolding size_of
returns-then-v-q c = rw (le-ltb _ _ c.if-v-q.true)

pub returns-then-v-p : goal.returns-then-v-p
unfolding size_of
returns-then-v-p c = rw (lt-ltb _ _ c.if-v-q.false, le-ltb _ _ c.if-v-p.true)

pub returns : goal.returns
unfolding size_of
returns c =
    let b = c in
    let a = b in
    let t = a in
    rw (lt-ltb _ _ t.if-v-q.false, lt-ltb _ _ t.if-v-p.false) (c.span.ensures ∙ ap₂ (span _) a.place_at-a.ensures.value b.place_at-b.ensures.value)
