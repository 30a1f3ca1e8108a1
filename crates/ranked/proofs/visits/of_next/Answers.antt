-- `ranked::visits::of_next` meets its contract. Assumes nothing.
use mathlib.Core.Bool.{not}
use mathlib.Core.Path.{ap}
use Prim.Native.Nat.{ℕ, ◌+◌}
use Rattle.ranked.proofs.VisitsLaws.{next_other, next_late, next_done}
use Rattle.ranked.proofs.visits.of_next.Goals as goal

pub returns-then-not-is_mine : goal.returns-then-not-is_mine
returns-then-not-is_mine c =
    next_other c.args.largest c.args.terms _ _ _ _ _ _ _ c.args.p.opens c.args.q.opens c.requires.0 _ _ c.requires.3 c.requires.4 _ c.requires.1 _ _ c.requires.8 _ c.is_mine.ensures (ap not c.if-not-is_mine.true)

pub returns-then-is_late : goal.returns-then-is_late
returns-then-is_late c =
    let own = c.from-own in
    next_late c.args.largest c.args.terms _ _ _ _ _ _ _ c.args.p.opens c.args.q.opens c.requires.0 _ _ c.requires.3 c.requires.4 _ c.requires.1 _ _ c.requires.8 own.result own.ensures c.requires.6 c.requires.7 c.requires.9 _ _ c.requires.5 (ap (λ (x : ℕ). own.result + x) c.from.ensures) _ c.is_late.ensures c.if-is_late.true

pub returns : goal.returns
returns c =
    let own = c.from-own in
    next_done c.args.largest c.args.terms _ _ _ _ _ _ _ c.args.p.opens c.args.q.opens c.requires.0 _ _ c.requires.3 c.requires.4 _ c.requires.1 _ _ c.requires.8 own.result own.ensures _ c.is_mine.ensures (ap not c.if-not-is_mine.false) _ c.of_chamber.ensures
