-- `ring::reader::point` meets its contract: refused by the sheet's number, by 9 past its points, and else the record.
-- Assumes nothing.
use mathlib.Core.Path.{refl, sym, ◌∙◌}
use native.Mathlib.Omega.{arith}
use Rattle.ring.proofs.HeadLaws.{handed_as, head_shut, head_opened}
use Rattle.ring.proofs.PointLaws.{point_sheet, point_past, point_read}
use Rattle.ring.proofs.reader.point.Goals as goal

pub returns-in_err-s : goal.returns-in_err-s
returns-in_err-s c =
    let k = c.in_err-s.ensures in
    handed_as c.from_residual.result _ c.from_residual.ensures.1 ∙ point_sheet _ _ _ (head_shut _ _ (sym k.0) k.1) k.1

pub returns-then-s-position : goal.returns-then-s-position
returns-then-s-position c =
    let o = c.in_ok-s.ensures in
    point_past _ _ _ (head_opened _ _ _ _ o.0 o.1 c.in_ok-s.s.opens) refl c.if-s-position.true

pub asset_at-requires : goal.asset_at-requires
asset_at-requires c = omega (arith, c.if-s-position.false, c.in_ok-s.s.opens.n_le)

pub returns : goal.returns
returns c =
    let o = c.in_ok-s.ensures in
    point_read _ _ _ (head_opened _ _ _ _ o.0 o.1 c.in_ok-s.s.opens) _ refl c.if-s-position.false c.asset_at.ensures
