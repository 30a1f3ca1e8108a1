-- `ranked::check::rest_no` meets its contract: one number after the other. Assumes nothing.
use mathlib.Core.Path.{sym, ◌∙◌}
use Rattle.words.proofs.FirstLaws.{first_last}
use Rattle.ring.specs.Numbers.{grid_no}
use Rattle.many.specs.Many.{largest_no}
use Rattle.many.proofs.CheckLaws.{many_first_more}
use Rattle.ranked.proofs.check.rest_no.Goals as goal

pub returns : goal.returns
unfolding grid_no largest_no
returns c =
    let g = c.largest_no-e.ensures ∙ sym (first_last _) in
    let f = many_first_more _ _ _ _ _ c.size_no-d.ensures g c.first_of.ensures in
    let e = many_first_more _ _ _ _ _ c.grid_no-c.ensures f c.first_of-2.ensures in
    let d = many_first_more _ _ _ _ _ c.owners_no-b.ensures e c.first_of-3.ensures in
    many_first_more _ _ _ _ _ c.contractor_no-a.ensures d c.first_of-4.ensures
