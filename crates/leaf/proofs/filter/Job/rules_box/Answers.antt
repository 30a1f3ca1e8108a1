-- `leaf::filter::rules_box` meets its contract. Assumes nothing.
use mathlib.Core.Path.{sym, ◌∙◌}
use Prim.Native.Nat.{◌+◌, ◌*◌, ◌≤◌}
use native.Mathlib.Omega.{arith}
use lib.ListN.{length}
use Rattle.plane.specs.Rule.{drops_box}
use Rattle.sheet.specs.Places.{spot_of}
use Rattle.leaf.proofs.FilterCode.{chambers_few, set_in, own_asks, ruled_other, ruled_kept}
use Rattle.leaf.proofs.filter.Job.rules_box.Goals as goal

pub returns-then-others_shut : goal.returns-then-others_shut
returns-then-others_shut c =
    ruled_other _ _ _ _ _ (λ p. drops_box c.args.a p c.args.o) _ _ (sym c.others_shut.ensures ∙ c.if-others_shut.true)

pub overflow_mul-from : goal.overflow_mul-from
overflow_mul-from c =
    let within : c.args.self.words * c.args.k + c.args.self.words ≤ length c.args.bits.now = let few = chambers_few _ _ _ _ _ _ c.args.self.leaf in set_in _ _ _ c.args.k c.requires.3 (omega (arith, few, c.requires.0)) in
    omega (arith, within, c.requires.3.long, c.requires.3.small)

pub overflow_add-to : goal.overflow_add-to
overflow_add-to c =
    let within : c.args.self.words * c.args.k + c.args.self.words ≤ length c.args.bits.now = let few = chambers_few _ _ _ _ _ _ c.args.self.leaf in set_in _ _ _ c.args.k c.requires.3 (omega (arith, few, c.requires.0)) in
    omega (arith, within, c.requires.3.long, c.requires.3.small)

pub offset_bounds-bits-from : goal.offset_bounds-bits-from
offset_bounds-bits-from c =
    let within : c.args.self.words * c.args.k + c.args.self.words ≤ length c.args.bits.now = let few = chambers_few _ _ _ _ _ _ c.args.self.leaf in set_in _ _ _ c.args.k c.requires.3 (omega (arith, few, c.requires.0)) in
    omega (arith, within, c.requires.3.long, c.requires.3.small)

pub returns : goal.returns
returns c =
    ruled_kept _ _ _ _ _ (λ p. drops_box c.args.a p c.args.o) _ _ _ (sym c.others_shut.ensures ∙ c.if-others_shut.false)
    (own_asks _ _ _ (λ i. drops_box c.args.a (spot_of c.args.self.p.words.now i) c.args.o) _ _ c.requires.3.enough c.seek_all.ensures)

pub slice_bounds-own-end : goal.slice_bounds-own-end
slice_bounds-own-end c =
    let within : c.args.self.words * c.args.k + c.args.self.words ≤ length c.args.bits.now = let few = chambers_few _ _ _ _ _ _ c.args.self.leaf in set_in _ _ _ c.args.k c.requires.3 (omega (arith, few, c.requires.0)) in
    within
