-- `many::step::started` meets its contract. Assumes nothing.
use Rattle.many.proofs.StepLaws.{started_first}
use Rattle.many.proofs.step.started.Goals as goal

pub invariant_of-qs : goal.invariant_of-qs
invariant_of-qs c = record { opens = c.requires.q_opens }

pub returns : goal.returns
returns c =
    let f = c.first_chamber-first.ensures in
    let r = c.step_from.ensures in
    started_first _ _ _ _ _ _ _ _ _ c.requires f.0 f.1 r.0 r.1 r.2 r.3 r.4 r.5
