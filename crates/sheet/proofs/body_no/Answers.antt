use borrow.Author.Rules.{rules}
use mathlib.Core.Path.{◌∙◌, sym}
use Rattle.words.specs.First.{given, first}
use Rattle.sheet.specs.Open.{body_no}
use Rattle.sheet.proofs.BoxLaws.{boxes_tight}
use Rattle.sheet.proofs.OpenLaws.{nodes_table}
use Rattle.sheet.proofs.body_no.Goals as goal

pub returns-then-not-points_ok : goal.returns-then-not-points_ok
unfolding body_no first given
returns-then-not-points_ok c =
    rw (sym c.points_ok.ensures ∙ c.if-not-points_ok.true)

pub returns-then-not-order_ok : goal.returns-then-not-order_ok
unfolding body_no first given
returns-then-not-order_ok c =
    rw ((sym c.points_ok.ensures ∙ c.if-not-points_ok.false), (sym c.order_ok.ensures ∙ c.if-not-order_ok.true))

pub returns-then-not-nodes_ok : goal.returns-then-not-nodes_ok
unfolding body_no first given
returns-then-not-nodes_ok c =
    rw ((sym c.points_ok.ensures ∙ c.if-not-points_ok.false), (sym c.order_ok.ensures ∙ c.if-not-order_ok.false), (sym c.nodes_ok.ensures ∙ c.if-not-nodes_ok.true))

pub boxes_ok-requires : goal.boxes_ok-requires
boxes_ok-requires c =
    let od = (sym c.order_ok.ensures ∙ c.if-not-order_ok.false) in
    let nd = (sym c.nodes_ok.ensures ∙ c.if-not-nodes_ok.false) in
    (search rules, search rules, search rules, od, nodes_table _ _ _ nd)

pub returns-then-not-boxes_ok : goal.returns-then-not-boxes_ok
unfolding body_no first given
returns-then-not-boxes_ok c =
    let nd = (sym c.nodes_ok.ensures ∙ c.if-not-nodes_ok.false) in
    rw ((sym c.points_ok.ensures ∙ c.if-not-points_ok.false), (sym c.order_ok.ensures ∙ c.if-not-order_ok.false), nd, (sym (c.boxes_ok.ensures ∙ boxes_tight _ _ _ (nodes_table _ _ _ nd)) ∙ c.if-not-boxes_ok.true))

pub returns : goal.returns
unfolding body_no first given
returns c =
    let nd = (sym c.nodes_ok.ensures ∙ c.if-not-nodes_ok.false) in
    rw ((sym c.points_ok.ensures ∙ c.if-not-points_ok.false), (sym c.order_ok.ensures ∙ c.if-not-order_ok.false), nd, (sym (c.boxes_ok.ensures ∙ boxes_tight _ _ _ (nodes_table _ _ _ nd)) ∙ c.if-not-boxes_ok.false))
