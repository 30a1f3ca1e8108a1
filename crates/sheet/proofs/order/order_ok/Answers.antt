use mathlib.Core.Path.{sym, ◌∙◌}
use Rattle.words.proofs.AllLaws.{all_none, all_more, all_stop, all_done}
use Rattle.sheet.specs.Order.{order_ok}
use Rattle.sheet.proofs.order.order_ok.Goals as goal

-- src/order.rt:21:5
pub loop-i-init : goal.loop-i-init
loop-i-init c = all_none _

-- src/order.rt:23:13
pub returns-then-not-place_ok : goal.returns-then-not-place_ok
unfolding order_ok
returns-then-not-place_ok c =
    let t = c in
    all_stop _ _ _ t.loop-i-test.true (sym c.place_ok.ensures ∙ c.if-not-place_ok.true)

-- src/order.rt:21:5
pub loop-i-preserved : goal.loop-i-preserved
loop-i-preserved c =
    let t = c in
    all_more _ _ t.loop-i.invariant (sym c.place_ok.ensures ∙ c.if-not-place_ok.false)

-- src/order.rt:16:1
pub returns : goal.returns
unfolding order_ok
returns c = all_done _ _ _ c.loop-i.auto.i-end c.loop-i-test.false c.loop-i.invariant
