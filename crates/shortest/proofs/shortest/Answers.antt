-- `shortest::shortest` meets its contract, number by number. Assumes nothing.
use native.Mathlib.Omega.{arith}
use Rattle.ring.proofs.HeadLaws.{headed}
use Rattle.shortest.proofs.AnswerLaws.{short_p, short_q, short_size, short_few, search_asked, short_given_lem}
use Rattle.shortest.proofs.shortest.Goals as goal

pub returns-then-a-ne0 : goal.returns-then-a-ne0
returns-then-a-ne0 c = short_p _ _ _ _ _ c.head_of-a.ensures c.if-a-ne0.true _ c.refused.ensures

pub returns-then-b-ne0 : goal.returns-then-b-ne0
returns-then-b-ne0 c =
    short_q _ _ _ _ _ c.head_of-a.ensures c.if-a-ne0.false _ c.head_of-b.ensures c.if-b-ne0.true _ c.refused-then-b-ne0.ensures

pub returns-then-no-ne0 : goal.returns-then-no-ne0
returns-then-no-ne0 c =
    short_size _ _ _ _ _ c.head_of-a.ensures c.if-a-ne0.false _ c.head_of-b.ensures c.if-b-ne0.false _ c.size_no-no.ensures c.if-no-ne0.true _ c.refused-then-no-ne0.ensures

pub words_for-w-requires : goal.words_for-w-requires
words_for-w-requires c =
    let o = (headed _ _ c.head_of-a.ensures c.if-a-ne0.false).facts in
    omega (arith, o.n_le)

pub returns-then-bits-w : goal.returns-then-bits-w
returns-then-bits-w c =
    short_few _ _ _ _ _ c.head_of-a.ensures c.if-a-ne0.false _ c.head_of-b.ensures c.if-b-ne0.false _ c.size_no-no.ensures c.if-no-ne0.false _ c.words_for-w.ensures c.if-bits-w.true _ c.refused-then-bits-w.ensures

pub given-requires : goal.given-requires
given-requires c =
    let t = search_asked _ _ _ _ _ c.head_of-a.ensures c.if-a-ne0.false _ c.head_of-b.ensures c.if-b-ne0.false _ c.size_no-no.ensures c.if-no-ne0.false _ c.words_for-w.ensures c.if-bits-w.false in
    (t.2, t.3, t.4)

pub invariant_of-ps : goal.invariant_of-ps
invariant_of-ps c = record { opens = (headed _ _ c.head_of-a.ensures c.if-a-ne0.false).facts }

pub invariant_of-qs : goal.invariant_of-qs
invariant_of-qs c = record { opens = (headed _ _ c.head_of-b.ensures c.if-b-ne0.false).facts }

pub returns : goal.returns
returns c =
    short_given_lem _ _ _ _ _ c.head_of-a.ensures c.if-a-ne0.false _ c.head_of-b.ensures c.if-b-ne0.false _ c.size_no-no.ensures c.if-no-ne0.false _ c.words_for-w.ensures c.if-bits-w.false _ c.given.ensures.0 _ c.given.ensures.1
