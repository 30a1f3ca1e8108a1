-- `list::source_no` meets its contract. Assumes nothing.
use Rattle.std.proofs.Common.{◌≡◌, Bool, true, false, not}
use Rattle.std.specs.Bool.{beq}
use borrow.Author.Tests.{eq-eqb, ne_eqb}
use Rattle.words.specs.First.{given, first}
use Rattle.list.specs.Pages.{alike, source_no}
use Rattle.list.proofs.source_no.Goals as goal

-- two flags that are not the same are not alike
not_alike : (a b : Bool) {t : Bool} → not (beq a b) ≡ t → not (alike a b) ≡ t
not_alike true true e = e
not_alike true false e = e
not_alike false true e = e
not_alike false false e = e

pub returns-then-a-b : goal.returns-then-a-b
unfolding source_no first given
returns-then-a-b c = rw (not_alike c.args.a.terms.own c.args.b.terms.own c.if-a-b.true)

pub returns-then-a-b-2 : goal.returns-then-a-b-2
unfolding source_no first given
returns-then-a-b-2 c = rw (not_alike c.args.a.terms.own c.args.b.terms.own c.if-a-b.false, ne_eqb _ _ c.if-a-b-2.true)

pub returns-then-a-b-3 : goal.returns-then-a-b-3
unfolding source_no first given
returns-then-a-b-3 c =
    rw (not_alike c.args.a.terms.own c.args.b.terms.own c.if-a-b.false, eq-eqb _ _ c.if-a-b-2.false, not_alike c.args.a.terms.grid c.args.b.terms.grid c.if-a-b-3.true)

pub returns-then-not-a-b : goal.returns-then-not-a-b
unfolding source_no first given
returns-then-not-a-b c =
    rw (not_alike c.args.a.terms.own c.args.b.terms.own c.if-a-b.false, eq-eqb _ _ c.if-a-b-2.false, not_alike c.args.a.terms.grid c.args.b.terms.grid c.if-a-b-3.false, c.if-not-a-b.true)

pub returns-then-a-b-4 : goal.returns-then-a-b-4
unfolding source_no first given
returns-then-a-b-4 c =
    rw (not_alike c.args.a.terms.own c.args.b.terms.own c.if-a-b.false, eq-eqb _ _ c.if-a-b-2.false, not_alike c.args.a.terms.grid c.args.b.terms.grid c.if-a-b-3.false, c.if-not-a-b.false, ne_eqb _ _ c.if-a-b-4.true)

pub returns : goal.returns
unfolding source_no first given
returns c =
    rw (not_alike c.args.a.terms.own c.args.b.terms.own c.if-a-b.false, eq-eqb _ _ c.if-a-b-2.false, not_alike c.args.a.terms.grid c.args.b.terms.grid c.if-a-b-3.false, c.if-not-a-b.false, eq-eqb _ _ c.if-a-b-4.false)
