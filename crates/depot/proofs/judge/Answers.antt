use mathlib.Core.Bool.{not}
use mathlib.Core.Path.{◌∙◌, ap, sym}
use borrow.Author.Tests.{not-true, not-false}
use Rattle.depot.proofs.DepotLaws.{key_any, said_11, said_15, said_known, said_16, said_issued}
use Rattle.depot.proofs.judge.Goals as goal

pub returns-then-slots-d : goal.returns-then-slots-d
returns-then-slots-d c = said_11 _ _ _ c.if-slots-d.true

pub returns-then-not-is_form : goal.returns-then-not-is_form
returns-then-not-is_form c = said_15 _ _ _ c.if-slots-d.false (sym c.is_form.ensures ∙ not-true _ (ap not c.if-not-is_form.true))

pub returns-then-is_held : goal.returns-then-is_held
returns-then-is_held c =
    said_known _ _ _ c.if-slots-d.false (sym c.is_form.ensures ∙ not-false _ (ap not c.if-not-is_form.false)) (sym (key_any _ _) ∙ sym c.is_held.ensures ∙ c.if-is_held.true)

pub returns-then-slots-d-2 : goal.returns-then-slots-d-2
returns-then-slots-d-2 c =
    said_16 _ _ _ c.if-slots-d.false (sym c.is_form.ensures ∙ not-false _ (ap not c.if-not-is_form.false)) (sym (key_any _ _) ∙ sym c.is_held.ensures ∙ c.if-is_held.false) c.if-slots-d-2.true

pub returns : goal.returns
returns c =
    said_issued _ _ _ c.if-slots-d.false (sym c.is_form.ensures ∙ not-false _ (ap not c.if-not-is_form.false)) (sym (key_any _ _) ∙ sym c.is_held.ensures ∙ c.if-is_held.false) c.if-slots-d-2.false
