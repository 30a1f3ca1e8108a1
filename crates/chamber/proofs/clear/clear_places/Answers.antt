use mathlib.Core.Path.{refl, sym, ◌∙◌}
use Prim.Native.Nat.{◌+◌}
use native.Mathlib.Omega.{arith}
use Rattle.walk.proofs.NodeLaws.{position_fits}
use Rattle.sheet.specs.Order.{order_of}
use Rattle.chamber.proofs.ClearLaws.{tells_no}
use Rattle.chamber.proofs.clear.clear_places.Goals as goal

pub returns-then-blocks_at : goal.returns-then-blocks_at
returns-then-blocks_at c =
    let l = c in
    let s = l in
    tells_no _ _ _ _ _ _ (order_of s.args.w.words.now s.args.w.n (s.args.first + l.loop-i.i)) (position_fits _ _ _ s.args.w.opens (s.args.first + l.loop-i.i) _ (omega (arith, c.loop-i-test.true, s.requires.2)) refl) (sym c.blocks_at.ensures ∙ c.if-blocks_at.true)
