-- `marker::on_map` meets its contract. Assumes nothing.
use mathlib.Core.Path.{◌≡◌, ap, ◌∙◌}
use mathlib.Core.Bool.{◌&&◌}
use mir.Syntax.{w32}
use mir.Val.{to_z, of_z}
use mir.Facts.{to_z-of_z}
use Rattle.words.specs.Range.{coord_word}
use Rattle.sheet.specs.declared.Limits.{Limits}
use Rattle.sheet.specs.Limits.{form2}
use Rattle.marker.specs.Mark.{on_map}
use Rattle.marker.proofs.on_map.Goals as goal

pub returns : goal.returns
unfolding form2 on_map
returns c =
    let limit : to_z w32 (of_z w32 c.form2-lim.result.coordinate) ≡ form2.coordinate = ap (λ (l : Limits). to_z w32 (of_z w32 l.coordinate)) c.form2-lim.ensures in
    let f = c.ranges in
    let ax = c.in_range.ensures ∙ (λ i. coord_word (limit i) (to_z-of_z f.ax i)) in
    let ay = c.in_range-2.ensures ∙ (λ i. coord_word (limit i) (to_z-of_z f.ay i)) in
    let bx = c.in_range-3.ensures ∙ (λ i. coord_word (limit i) (to_z-of_z f.bx i)) in
    let by = c.in_range-4.ensures ∙ (λ i. coord_word (limit i) (to_z-of_z f.by i)) in
    λ i. ax i && (ay i && (bx i && by i))
