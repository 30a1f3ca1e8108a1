-- `ring::pages::asked_no` meets its contract, number by number. Assumes nothing.
use mathlib.Core.Path.{ap}
use mathlib.Core.Bool.{not}
use Rattle.ring.specs.Numbers.{grid_no}
use Rattle.ring.proofs.PageLaws.{asked_29, asked_9, asked_10, asked_21}
use Rattle.ring.proofs.pages.asked_no.Goals as goal

pub returns-then-form-ne0 : goal.returns-then-form-ne0
unfolding grid_no
returns-then-form-ne0 c = asked_29 _ _ _ _ _ _ _ c.grid_no-form.ensures c.if-form-ne0.true

pub returns-then-not-key : goal.returns-then-not-key
unfolding grid_no
returns-then-not-key c = let g = c in asked_9 _ _ _ _ _ _ _ g.grid_no-form.ensures g.if-form-ne0.false (ap not c.if-not-key.true)

pub returns-then-no-ne0 : goal.returns-then-no-ne0
unfolding grid_no
returns-then-no-ne0 c =
    let k = c in
    let g = k in
    asked_10 _ _ _ _ _ _ _ g.grid_no-form.ensures g.if-form-ne0.false (ap not k.if-not-key.false) _ c.size_no-no.ensures c.if-no-ne0.true

pub returns : goal.returns
unfolding grid_no
returns c =
    let z = c in
    let k = z in
    let g = k in
    asked_21 _ _ _ _ _ _ _ g.grid_no-form.ensures g.if-form-ne0.false (ap not k.if-not-key.false) _ z.size_no-no.ensures c.if-no-ne0.false _ c.threshold_no.ensures
