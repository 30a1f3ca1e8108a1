-- `many::check::rest_no` meets its contract: one number after the other. Assumes nothing.
use mathlib.Core.Path.{sym, ◌∙◌}
use Rattle.words.proofs.FirstLaws.{first_last}
use Rattle.ring.specs.Numbers.{grid_no}
use Rattle.many.specs.Many.{largest_no, rest_no}
use Rattle.many.proofs.CheckLaws.{many_first_more}
use Rattle.many.proofs.check.rest_no.Goals as goal

pub returns : goal.returns
unfolding grid_no largest_no rest_no
returns c =
    let g = c.bits_no-g.ensures ∙ sym (first_last _) in
    let f = many_first_more _ _ _ _ _ c.largest_no-f.ensures g c.first_of.ensures in
    let e = many_first_more _ _ _ _ _ c.threshold_no-e.ensures f c.first_of-2.ensures in
    let d = many_first_more _ _ _ _ _ c.key_no-d.ensures e c.first_of-3.ensures in
    let h = many_first_more _ _ _ _ _ c.grid_no-c.ensures d c.first_of-4.ensures in
    let b = many_first_more _ _ _ _ _ c.owners_no-b.ensures h c.first_of-5.ensures in
    many_first_more _ _ _ _ _ c.contractor_no-a.ensures b c.first_of-6.ensures
