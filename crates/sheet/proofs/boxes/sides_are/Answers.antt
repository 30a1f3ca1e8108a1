-- `sheet::boxes::sides_are` meets its contract. Assumes nothing.
use mathlib.Core.Path.{◌∙◌}
use Rattle.words.specs.Word.{eq_z}
use Rattle.sheet.proofs.BoxLaws.{back, sides_same}
use Rattle.sheet.proofs.boxes.sides_are.Goals as goal

pub returns : goal.returns
returns c =
    let s = c in
    let o = s.struct_told-2-1.given in
    let p = s.struct_told-1.given in
    let n = s in
    let x = n.args.o in
    let r = n.node_sides-p.result in
    sides_same _ _ _ x r n.node_sides-p.ensures
    (s.same.ensures ∙ (λ j. eq_z (back r.xmin p.0.1 j) (back x.xmin o.0.1 j)))
    (c.same-2.ensures ∙ (λ j. eq_z (back r.ymin p.1.0.1 j) (back x.ymin o.1.0.1 j)))
    (c.same-3.ensures ∙ (λ j. eq_z (back r.xmax p.1.1.0.1 j) (back x.xmax o.1.1.0.1 j)))
    (c.same-4.ensures ∙ (λ j. eq_z (back r.ymax p.1.1.1.0.1 j) (back x.ymax o.1.1.1.0.1 j)))
