-- `pack::pack_by` meets its contract: none of the marks is set; where nothing is refused the sheet is written, else the lent words are not touched. Assumes nothing.
use mathlib.Core.Path.{refl, sym, ◌∙◌}
use mathlib.Core.Bool.{false}
use native.Mathlib.Omega.{arith}
use lib.ListN.{get_or-replicate, length-replicate}
use Rattle.words.proofs.FirstLaws.{answer_given, answer_refused}
use Rattle.words.proofs.RangeLaws.{edition_bounds}
use Rattle.pack.proofs.PackLaws.{within_facts, shape_points, shape_order, range_few, range_edition}
use Rattle.pack.proofs.pack_by.Goals as goal

pub within_no-k-requires : goal.within_no-k-requires
within_no-k-requires g c =
    (c.requires.0, c.requires.4, omega (arith, length-replicate g.row.N false), λ i b. get_or-replicate g.row.N i false false (omega arith))

pub whole_as_slice-within_no : goal.whole_as_slice-within_no
whole_as_slice-within_no g c = omega (arith, c.requires.3)

pub put_sheet-requires : goal.put_sheet-requires
put_sheet-requires g c =
    let s = c in
    let f = within_facts s.args.lim s.args.n _ _ s.args.edition _ (sym c.within_no-k.ensures ∙ c.if-k-eq0.true) in (
      s.requires.1,
      omega (arith, s.requires.0.points_le, range_few s.args.lim s.args.n s.args.edition f.ranged),
      omega (arith, shape_points _ _ _ s.requires.4),
      omega (arith, shape_order _ _ _ s.requires.4),
      f.ordered,
      omega (arith, (edition_bounds s.args.edition (range_edition s.args.lim s.args.n s.args.edition f.ranged)).1),
      f.sized,
    )

pub returns-then-k-eq0-clause-out_after : goal.returns-then-k-eq0-clause-out_after
returns-then-k-eq0-clause-out_after g c =
    let e = c.within_no-k.ensures in
    c.put_sheet.ensures ∙ sym (answer_given _ _ _ (sym e ∙ c.if-k-eq0.true))

pub returns-else-k-eq0-clause-out_after : goal.returns-else-k-eq0-clause-out_after
returns-else-k-eq0-clause-out_after g c =
    let e = c.within_no-k.ensures in
    sym (answer_refused _ _ _ _ refl (λ z. c.if-k-eq0.false (e ∙ z)))
