-- `sheet::boxes::around` meets its contract. Assumes nothing.
use mathlib.Core.Path.{◌∙◌}
use Rattle.words.specs.Word.{min_z, max_z}
use Rattle.words.proofs.Signs.{handed}
use Rattle.sheet.specs.Boxes.{around, better}
use Rattle.sheet.proofs.BoxLaws.{back}
use Rattle.sheet.proofs.boxes.around.Goals as goal

pub returns : goal.returns
unfolding around better
returns c =
    let s = c.args in
    let o = c.struct_told-1.given in
    let p = c.struct_told-2-1.given in
    let l = c.least in
    let k = c.least-2 in
    let g = c.greatest in
    let h = c.greatest-2 in
    λ i. record {
      xmin = handed l.type_inv (l.ensures ∙ (λ j. min_z (back s.o.xmin o.0.1 j) (back s.p.xmin p.0.1 j))) i;
      ymin = handed k.type_inv (k.ensures ∙ (λ j. min_z (back s.o.ymin o.1.0.1 j) (back s.p.ymin p.1.0.1 j))) i;
      xmax = handed g.type_inv (g.ensures ∙ (λ j. max_z (back s.o.xmax o.1.1.0.1 j) (back s.p.xmax p.1.1.0.1 j))) i;
      ymax = handed h.type_inv (h.ensures ∙ (λ j. max_z (back s.o.ymax o.1.1.1.0.1 j) (back s.p.ymax p.1.1.1.0.1 j))) i;
    }
