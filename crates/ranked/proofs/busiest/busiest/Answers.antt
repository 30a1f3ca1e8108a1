-- `ranked::busiest::busiest` meets its contract, number by number. Assumes nothing.
use native.Mathlib.Omega.{arith}
use mathlib.Core.Path.{refl, sym}
use Rattle.many.proofs.CheckLaws.{done_refused, done_given}
use Rattle.ranked.specs.Busiest.{busy_answer, busy_bits}
use Rattle.ranked.proofs.AskedLaws.{busy_is, words_need, lent_stops, lent_short, lent_serves}
use Rattle.ranked.proofs.RanksLaws.{busy_same}
use Rattle.ranked.proofs.BusyLaws.{busiest_ranks}
use Rattle.ranked.proofs.busiest.busiest.Goals as goal

pub returns-in-Err : goal.returns-in-Err
unfolding busy_answer busy_bits
returns-in-Err c =
    let k = c.in-Err.ensures in
    done_refused _ _ _ _ _ _ _ (lent_stops _ _ _ _ (busy_is _ _ _ c.args.asked _ _ k.0) k.1) k.1 c.refused.ensures

pub returns-then-bits-w : goal.returns-then-bits-w
unfolding busy_answer busy_bits
returns-then-bits-w c =
    let k = c.in-Ok.ensures in
    let w = words_need _ _ _ k.2.p_opens _ c.words_for-w.ensures in
    done_refused _ _ _ _ _ _ 24 (lent_short _ _ _ _ (busy_is _ _ _ c.args.asked _ _ (sym k.0)) refl (omega (arith, c.if-bits-w.true))) (λ i. omega arith) c.refused-then-bits-w.ensures

pub returns : goal.returns
unfolding busy_answer busy_bits
returns c =
    let k = c.in-Ok.ensures in
    let v = k.2 in
    let w = words_need _ _ _ v.p_opens _ c.words_for-w.ensures in
    let g = rw (k.1.p_is, k.1.q_is) at c.given.ensures in
    let fits = c.if-bits-w.false in
    done_given _ _ _ _ _ _ (lent_serves _ _ _ _ (busy_is _ _ _ c.args.asked _ _ (sym k.0)) refl (omega (arith, fits))) _ fits w (busy_same _ _ _ g.0 (busiest_ranks _ _ _ _ _ _ v.p_opens v.q_opens _ c.args.asked)) _ g.1
