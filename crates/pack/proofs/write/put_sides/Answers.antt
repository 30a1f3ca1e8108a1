-- `pack::write::put_sides` meets its contract. Assumes nothing.
use mathlib.Core.Path.{◌∙◌}
use mathlib.Core.List.{◌∷◌, [], ◌++◌}
use native.Mathlib.Omega.{arith}
use lib.ListN.{take}
use Prim.Native.Nat.{◌+◌}
use borrow.Rule.Slice.PartMut.{Post-is}
use Rattle.sheet.proofs.BoxLaws.{back}
use Rattle.pack.specs.Work.{sides_put}
use Rattle.pack.proofs.write.put_sides.Goals as goal

pub returns : goal.returns
unfolding sides_put
returns c =
    let f = c.struct_told-1.given in
    let o = c.args.o in
    let k = c.args.k in
    let sides = c.copy.ensures.after ∙ (λ i. back o.xmin f.0.1 i ∷ back o.ymin f.1.0.1 i ∷ back o.xmax f.1.1.0.1 i ∷ back o.ymax f.1.1.1.0.1 i ∷ []) in
    let rest = Post-is k (k + 4) c.args.out.now (omega arith) in
    λ i. take k c.args.out.now ++ (sides i ++ rest i)
