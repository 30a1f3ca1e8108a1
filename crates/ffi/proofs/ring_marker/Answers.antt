-- `ffi::ring_marker` meets its contract. Assumes nothing.
use mathlib.Core.Path.{ap, ◌∙◌}
use mir.Facts.{to_z-of_z}
use Rattle.marker.specs.Mark.{Marks}
use Rattle.ffi.specs.Over.{mark_over}
use Rattle.ffi.proofs.MarkLaws.{marked_is}
use Rattle.ffi.proofs.ring_marker.Goals as goal

pub returns : goal.returns
returns c =
    let answered : Marks c.args.ax c.args.ay c.args.bx c.args.by c.mark.result = let f = c.ranges in
    simp (to_z-of_z f.ax, to_z-of_z f.ay, to_z-of_z f.bx, to_z-of_z f.by) at c.mark.ensures in
    c.of_marked.ensures ∙ ap mark_over (marked_is _ _ _ _ _ answered)
