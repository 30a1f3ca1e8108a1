-- `runs::decide` meets its contract, number by number. Assumes nothing.
use borrow.Author.Rules.{rules}
use mathlib.Core.Path.{refl}
use native.Mathlib.Omega.{arith}
use Rattle.ring.proofs.HeadLaws.{heads_shut_p, heads_shut_q, heads_opened_both}
use Rattle.runs.proofs.DecideLaws.{refused_is, number_sheets, number_leaf, few_words, number_short, made_asked, made_is}
use Rattle.runs.proofs.decide.Goals as goal

pub returns-in-Err : goal.returns-in-Err
returns-in-Err c =
    let k = c.in-Err.ensures in
    refused_is _ _ _ _ c.args.bits.now _ _ (number_sheets _ _ _ _ _ _ (heads_shut_p _ _ _ k.0 k.1) k.1) k.1 c.refused.ensures

pub returns-in-Err-open : goal.returns-in-Err-open
returns-in-Err-open c =
    let k = c.in-Err-open.ensures in
    refused_is _ _ _ _ c.args.bits.now _ _ (number_sheets _ _ _ _ _ _ (heads_shut_q _ _ c.in-Ok.ensures.0 _ k.0 k.1) k.1) k.1 c.refused-in-Err-open.ensures

pub returns-then-no-ne0 : goal.returns-then-no-ne0
returns-then-no-ne0 c =
    let a = c.in-Ok.ensures in
    let b = c.in-Ok-open.ensures in
    let e = heads_opened_both _ _ _ _ _ _ _ _ a.0 a.1 c.in-Ok.ps.opens b.0 b.1 c.in-Ok-open.qs.opens in
    refused_is _ _ _ _ c.args.bits.now _ _ (number_leaf _ _ _ _ _ _ e refl _ (rw b.1 at c.leaf_no-no.ensures) c.if-no-ne0.true) c.if-no-ne0.true c.refused-then-no-ne0.ensures

pub overflow_mul-w : goal.overflow_mul-w
overflow_mul-w c =
    let a = c.in-Ok.ensures in
    let b = c.in-Ok-open.ensures in
    let e = heads_opened_both _ _ _ _ _ _ _ _ a.0 a.1 c.in-Ok.ps.opens b.0 b.1 c.in-Ok-open.qs.opens in
    let few = few_words _ _ _ _ e refl _ (rw b.1 at c.leaf_no-no.ensures) c.if-no-ne0.false _ c.words_for-words.ensures in
    record { fits = omega (arith, few) }

pub returns-then-bits-w : goal.returns-then-bits-w
returns-then-bits-w c =
    let s = c.args in
    let a = c.in-Ok.ensures in
    let b = c.in-Ok-open.ensures in
    let e = heads_opened_both _ _ _ _ _ _ _ _ a.0 a.1 c.in-Ok.ps.opens b.0 b.1 c.in-Ok-open.qs.opens in
    refused_is _ _ _ _ s.bits.now _ _
    (number_short _ _ _ _ e refl _ (rw b.1 at c.leaf_no-no.ensures) c.if-no-ne0.false _ c.words_for-words.ensures s.len s.bits.now c.if-bits-w.true)
    (λ z. absurd (omega arith)) c.refused-then-bits-w.ensures

pub made_on-requires : goal.made_on-requires
made_on-requires c =
    let s = c.args in
    let a = c.in-Ok.ensures in
    let b = c.in-Ok-open.ensures in
    let e = heads_opened_both _ _ _ _ _ _ _ _ a.0 a.1 c.in-Ok.ps.opens b.0 b.1 c.in-Ok-open.qs.opens in
    rw b.1 (made_asked _ _ _ _ e refl _ (rw b.1 at c.leaf_no-no.ensures) c.if-no-ne0.false _ c.words_for-words.ensures s.len s.bits.now c.if-bits-w.false)

pub returns : goal.returns
returns c =
    let s = c.args in
    let a = c.in-Ok.ensures in
    let b = c.in-Ok-open.ensures in
    let e = heads_opened_both _ _ _ _ _ _ _ _ a.0 a.1 c.in-Ok.ps.opens b.0 b.1 c.in-Ok-open.qs.opens in
    made_is _ _ _ _ e refl _ (rw b.1 at c.leaf_no-no.ensures) c.if-no-ne0.false _ c.words_for-words.ensures s.len s.bits.now c.if-bits-w.false
    c.made_on.result c.made_on.new.bits (search rules) (rw (a.1, b.1) at c.made_on.ensures)
