use mathlib.Core.Path.{◌≡◌, ap, sym, ◌∙◌}
use Prim.Native.Nat.{◌<◌}
use native.Mathlib.Omega.{arith}
use borrow.Author.Rules.{rules}
use lib.ListN.{length}
use Rattle.depot.proofs.FormLaws.{filled, filled_more, fits_both, forms_are}
use Rattle.depot.proofs.forms.Goals as goal

pub slice_bounds-v-items-end : goal.slice_bounds-v-items-end
slice_bounds-v-items-end c = sym (fits_both _ _ _ _ c.decide-made.ensures).0

pub offset_bounds-out-k : goal.offset_bounds-out-k
offset_bounds-out-k c =
    let fits = fits_both _ _ _ _ c.decide-made.ensures in
    let within : c.loop-k.k < length c.loop-k.out = omega (arith, fits.0, fits.1) in
    search rules

pub bounds-out-k : goal.bounds-out-k
bounds-out-k c = let fits = fits_both _ _ _ _ c.decide-made.ensures in omega (arith, fits.0, fits.1)

pub loop-k-preserved : goal.loop-k-preserved
loop-k-preserved c = filled_more _ _ _ _ _ _ _ _ c.loop-k.invariant c.form_of.ensures c.loop-k-test.true

pub returns : goal.returns
returns c =
    let all : c.loop-k.k ≡ c.decide-made.result.count = let fits = fits_both _ _ _ _ c.decide-made.ensures in omega (arith, fits.0) in
    let are = forms_are c.args.b c.args.slots.now c.args.out.now c.decide-made.result c.decide-made.ensures in
    (are.0, c.loop-k.invariant ∙ ap (filled c.args.out.now c.args.b.source c.args.slots.now) all ∙ are.1)
