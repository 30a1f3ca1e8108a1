use mathlib.Core.Path.{sym, ◌∙◌}
use native.Mathlib.Omega.{arith}
use Rattle.book.specs.Rules.{advanced, accepted, refused}
use Rattle.book.proofs.TakeLaws.{passed_at}
use Rattle.book.proofs.CoreLaws.{refused_at, accepted_at}
use Rattle.book.proofs.decide.Goals as goal

pub returns-then-number-ne0 : goal.returns-then-number-ne0
unfolding refused
returns-then-number-ne0 c = refused_at _ _ _ _ _ c.take_number-number.ensures c.if-number-ne0.true

pub overflow_add-book : goal.overflow_add-book
overflow_add-book c =
    let e = c in
    let p = passed_at _ _ _ _ (sym e.take_number-number.ensures ∙ e.if-number-ne0.false) in
    omega (arith, p.fits, e.ranges.len)

pub returns : goal.returns
unfolding accepted advanced
returns c = let e = c in accepted_at _ _ _ _ (sym e.take_number-number.ensures ∙ e.if-number-ne0.false)
