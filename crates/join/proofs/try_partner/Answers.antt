-- `join::try_partner` meets its contract, by `tried_early` before the key and `tried_walked` after it. Assumes nothing.
use mathlib.Core.Bool.{not}
use mathlib.Core.Path.{ap, ◌∙◌}
use Rattle.join.proofs.CallLaws.{tried_early, tried_walked}
use Rattle.join.proofs.try_partner.Goals as goal

pub returns-then-not-is_late : goal.returns-then-not-is_late
returns-then-not-is_late c words = tried_early _ _ _ _ _ c.is_late.ensures (ap not c.if-not-is_late.true)

pub returns : goal.returns
returns c words =
    let w = c in
    let z = w.walked-a.ensures words in
    tried_walked _ _ _ _ _ w.is_late.ensures (ap not w.if-not-is_late.false) _ _ (c.clear_after.ensures ∙ z.0) z.1
