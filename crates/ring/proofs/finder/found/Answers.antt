-- `ring::finder::found` meets its contract: refused by the sheet's number, by 20 where no record has the id, and else the position. Assumes nothing.
use mathlib.Core.Path.{refl, sym, ap, ◌∙◌}
use Rattle.sheet.specs.Find.{position_of}
use Rattle.sheet.specs.Places.{points_of}
use Rattle.ring.specs.Position.{place_refused}
use Rattle.ring.proofs.HeadLaws.{handed_on, head_shut, head_opened}
use Rattle.ring.proofs.PositionLaws.{place_sheet, place_unknown, place_found}
use Rattle.ring.proofs.finder.found.Goals as goal

pub returns-in_err-s : goal.returns-in_err-s
unfolding place_refused
returns-in_err-s c =
    let k = c.in_err-s.ensures in
    handed_on c.from_residual.result _ _ _ c.from_residual.ensures.1 (place_sheet _ _ _ (head_shut _ _ (sym k.0) k.1) k.1)

pub returns-then-s-i : goal.returns-then-s-i
unfolding place_refused
returns-then-s-i c =
    let o = c.in_ok-s.ensures in
    place_unknown _ _ _ (head_opened _ _ _ _ o.0 o.1 c.in_ok-s.s.opens) refl _ (c.position_of-i.ensures ∙ ap (λ w. position_of (points_of w) c.args.id) o.1) c.if-s-i.true

pub returns : goal.returns
returns c =
    let o = c.in_ok-s.ensures in
    place_found _ _ _ (head_opened _ _ _ _ o.0 o.1 c.in_ok-s.s.opens) refl _ (c.position_of-i.ensures ∙ ap (λ w. position_of (points_of w) c.args.id) o.1) c.if-s-i.false
