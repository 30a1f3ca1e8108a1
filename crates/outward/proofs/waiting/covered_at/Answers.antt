-- `outward::waiting::covered_at` meets its contract. Assumes nothing.
use mathlib.Core.Path.{◌≡◌, sym, ap, ◌∙◌}
use native.Mathlib.Omega.{arith}
use Rattle.sheet.specs.Nodes.{level_of}
use Rattle.sheet.proofs.TreeLaws.{leaf}
use Rattle.outward.specs.Waiting.{point_entry}
use Rattle.outward.proofs.EntryLaws.{covered_place, covered_few, covered_above}
use Rattle.outward.proofs.waiting.covered_at.Goals as goal

pub order_at-requires : goal.order_at-requires
order_at-requires c = let p = c.requires in (leaf _ _ _ c.args.w.opens.table _ p.0 (sym p.1 ∙ c.if-level-eq0.true) _ p.2.high)

pub overflow_add-result-then-level-eq0 : goal.overflow_add-result-then-level-eq0
overflow_add-result-then-level-eq0 c = let p = c.requires in record { fits = omega (arith, c.args.w.opens.m_le, c.args.w.opens.n_le, covered_few _ _ _ _ _ _ c.args.w.opens p.0 (sym p.1 ∙ c.if-level-eq0.true) p.2 c.order_at.ensures) }

pub returns-then-level-eq0 : goal.returns-then-level-eq0
returns-then-level-eq0 c = let p = c.requires in ap (point_entry _) c.order_at.ensures ∙ sym (covered_place _ _ _ _ _ (sym p.1 ∙ c.if-level-eq0.true))

pub overflow_add-result-2 : goal.overflow_add-result-2
overflow_add-result-2 c =
    let above : level_of c.args.w.words.now c.args.w.n c.args.j ≡ 0 → ⊥ = λ e. c.if-level-eq0.false (c.requires.1 ∙ e) in
    let p = c.requires in record { fits = omega (arith, c.args.w.opens.m_le, (covered_above _ _ _ _ _ c.args.w.opens p.0 above p.2).0) }

pub returns : goal.returns
returns c =
    let above : level_of c.args.w.words.now c.args.w.n c.args.j ≡ 0 → ⊥ = λ e. c.if-level-eq0.false (c.requires.1 ∙ e) in
    let p = c.requires in sym (covered_above _ _ _ _ _ c.args.w.opens p.0 above p.2).1
