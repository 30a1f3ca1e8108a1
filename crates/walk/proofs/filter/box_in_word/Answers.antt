use mathlib.Core.Path.{◌≡◌, sym, ap, ◌∙◌}
use Prim.Native.Nat.{ℕ, ◌+◌, ◌*◌}
use lib.Count.{count_trailing_zeros}
use Rattle.plane.specs.declared.Spot.{Spot}
use Rattle.plane.specs.Rule.{drops_box}
use Rattle.bits.proofs.SomeLaws.{sift_yes, sift_no, sift_past, sift_end}
use Rattle.walk.proofs.NodeLaws.{spot_fits}
use Rattle.walk.proofs.filter.box_in_word.Invariants.{test}
use Rattle.walk.proofs.filter.box_in_word.Goals as goal

pub returns-then-i-w : goal.returns-then-i-w
returns-then-i-w c = let l = c in sift_past _ _ _ _ l.loop-rest.rest l.loop-rest.invariant c.loop-rest-test.true c.if-i-w.true

pub drops_box-requires : goal.drops_box-requires
drops_box-requires c =
    let next : ℕ = 64 * c.args.k + count_trailing_zeros 64 c.loop-rest.rest in
    let l = c in
    let p = l.requires in
    (p.0, spot_fits _ _ _ l.args.w.opens next _ c.if-i-w.false c.spot_at-p.ensures, p.1)

pub returns-then-drops_box : goal.returns-then-drops_box
returns-then-drops_box c =
    let next : ℕ = 64 * c.args.k + count_trailing_zeros 64 c.loop-rest.rest in
    let said : c.drops_box.result ≡ test c.args.w.words.now c.args.q c.args.o next = c.drops_box.ensures ∙ ap (λ (p : Spot). drops_box c.args.q p c.args.o) c.spot_at-p.ensures in
    let e = c in
    let l = e in
    sift_yes _ _ _ _ l.loop-rest.rest l.loop-rest.invariant e.loop-rest-test.true e.if-i-w.false (sym said ∙ c.if-drops_box.true)

pub loop-rest-preserved : goal.loop-rest-preserved
loop-rest-preserved c =
    let next : ℕ = 64 * c.args.k + count_trailing_zeros 64 c.loop-rest.rest in
    let said : c.drops_box.result ≡ test c.args.w.words.now c.args.q c.args.o next = c.drops_box.ensures ∙ ap (λ (p : Spot). drops_box c.args.q p c.args.o) c.spot_at-p.ensures in
    let e = c in
    let l = e in
    sift_no _ _ _ _ l.loop-rest.rest l.loop-rest.invariant e.loop-rest-test.true e.if-i-w.false (sym said ∙ c.if-drops_box.false)

pub returns : goal.returns
returns c = sift_end _ _ _ _ c.loop-rest.rest c.loop-rest.invariant c.loop-rest-test.false
