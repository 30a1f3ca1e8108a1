-- `Book::begin` meets its contract, number by number. Assumes nothing.
use mathlib.Core.Path.{ap}
use mathlib.Core.Bool.{not}
use Rattle.std.proofs.lemmas.Result.{err_from_is_err_and}
use Rattle.book.specs.Rules.{begun_book}
use Rattle.book.proofs.CoreLaws.{begin_3, begin_own, begin_21, begin_27, begin_0}
use Rattle.book.proofs.Book.begin.Goals as goal

pub returns-then-not-is_edition-source : goal.returns-then-not-is_edition-source
returns-then-not-is_edition-source c = begin_3 _ _ _ c.is_edition.ensures c.is_edition-2.ensures (ap not c.if-not-is_edition-source.true)

pub returns-then-source : goal.returns-then-source
returns-then-source c = begin_own _ _ _ c.is_edition.ensures c.is_edition-2.ensures (ap not c.if-not-is_edition-source.false) c.if-source.true

pub returns-in_err-pass : goal.returns-in_err-pass
returns-in_err-pass c =
    let p = err_from_is_err_and c.from_residual.result c.from_residual.ensures.1 in
    rw (p.1, p.2, c.in_err-pass.ensures.0)
    (begin_21 _ _ _ c.is_edition.ensures c.is_edition-2.ensures (ap not c.if-not-is_edition-source.false) c.if-source.false _ c.threshold_no.ensures
    c.in_err-pass.ensures.1)

pub returns-in_err-pass-2 : goal.returns-in_err-pass-2
returns-in_err-pass-2 c =
    let p = err_from_is_err_and c.from_residual-in_err-pass-2.result c.from_residual-in_err-pass-2.ensures.1 in
    rw (p.1, p.2, c.in_err-pass-2.ensures.0)
    (begin_27 _ _ _ c.is_edition.ensures c.is_edition-2.ensures (ap not c.if-not-is_edition-source.false) c.if-source.false _ c.threshold_no.ensures
    c.in_ok-pass.ensures _ c.contractor_no.ensures c.in_err-pass-2.ensures.1)

pub returns : goal.returns
unfolding begun_book
returns c =
    begin_0 _ _ _ c.is_edition.ensures c.is_edition-2.ensures (ap not c.if-not-is_edition-source.false) c.if-source.false _ c.threshold_no.ensures
    c.in_ok-pass.ensures _ c.contractor_no.ensures c.in_ok-pass-2.ensures
