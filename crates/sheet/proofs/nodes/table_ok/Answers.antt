use mathlib.Core.Path.{refl, sym, ap, ◌∙◌}
use native.Mathlib.Omega.{arith}
use Rattle.sheet.proofs.NodeLaws.{due_more, node_is, rule_run}
use Rattle.words.proofs.AllLaws.{all_none, all_more, all_stop, all_done}
use Rattle.sheet.specs.Nodes.{due_next, table_ok, due_of}
use Rattle.sheet.proofs.nodes.table_ok.Goals as goal

pub loop-j-init : goal.loop-j-init
unfolding due_of
loop-j-init c = (refl, all_none _)

pub returns-then-not-node_ok : goal.returns-then-not-node_ok
unfolding table_ok
returns-then-not-node_ok c =
    let t = c in
    let a = t in
    let p = node_is _ _ _ _ _ _ a.loop-j.invariant.0 c.node_ok.ensures in
    all_stop _ _ _ t.loop-j-test.true (p ∙ c.if-not-node_ok.true)

pub due_next-d-requires : goal.due_next-d-requires
due_next-d-requires c = (omega arith, omega arith, omega arith, rule_run _ _ _ _ _ (sym c.node_ok.ensures ∙ c.if-not-node_ok.false))

pub loop-j-preserved : goal.loop-j-preserved
loop-j-preserved c =
    let e = c in
    let t = e in
    let a = t in
    let p = node_is _ _ _ _ _ _ a.loop-j.invariant.0 e.node_ok.ensures in (c.due_next-d.ensures ∙ ap (due_next _ _ _) a.loop-j.invariant.0 ∙ sym (due_more _ _ _), all_more _ _ a.loop-j.invariant.1 (p ∙ e.if-not-node_ok.false))

pub returns : goal.returns
unfolding table_ok
returns c = all_done _ _ _ c.loop-j.auto.j-end c.loop-j-test.false c.loop-j.invariant.1
