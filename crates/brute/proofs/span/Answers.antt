-- `brute::span` meets its contract. Assumes nothing.
use mathlib.Core.Path.{◌≡◌, ◌∙◌}
use Prim.Native.Nat.{◌+◌, ◌*◌}
use Rattle.brute.specs.Brute.{across, turn, most, span}
use Rattle.brute.proofs.Distances.{brute_back}
use Rattle.brute.proofs.span.Goals as goal

pub returns-then-grid : goal.returns-then-grid
unfolding span
returns-then-grid c =
    let b = c in
    let a = b in
    let e : c.most-d.result ≡ most (turn a.args.a) (turn a.args.b) =
    c.most-d.ensures.0 ∙ (λ i. most (a.turn.ensures.value i) (b.turn-then-grid.ensures.value i)) in
    rw a.if-grid.true (λ i. e i * e i)

pub returns : goal.returns
unfolding span
returns c =
    let e = c in
    let f = e in
    let s = f in
    rw f.if-grid.false
    (λ i. (e.across.ensures.0 ∙ (λ j. across (brute_back s.requires.within.0 j) (brute_back s.requires.within_2.0 j))) i + (c.across-2.ensures.0 ∙ (λ j. across (brute_back s.requires.within.1 j) (brute_back s.requires.within_2.1 j))) i)
