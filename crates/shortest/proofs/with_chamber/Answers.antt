use mathlib.Core.Path.{ap, ◌∙◌}
use Prim.Native.Nat.{ℕ}
use native.Mathlib.Omega.{arith}
use Rattle.sheet.specs.Places.{points_of}
use Rattle.bits.proofs.NextLaws.{from_le, from_kept}
use Rattle.list.specs.Rows.{row}
use Rattle.list.specs.RingList.{pair_at}
use Rattle.list.specs.Terms.{full}
use Rattle.chamber.specs.Sized.{small_for}
use Rattle.sorting.specs.Ranking.{gathered}
use Rattle.shortest.specs.Order.{shorter}
use Rattle.shortest.specs.Search.{held, search_of}
use Rattle.shortest.proofs.SearchLaws.{gather_start, gather_next, gather_turn, gather_end, bounded_row}
use Rattle.shortest.proofs.with_chamber.Goals as goal

pub loop-i-init : goal.loop-i-init
loop-i-init c =
    (gather_start _ _ _ _ _ _ c.pairs_of.ensures.held _ c.requires.4 _ c.next_from-i.ensures, λ h. from_kept _ _ _ c.next_from-i.ensures (omega (arith, h, c.requires.0.enough, c.pairs_of.auto.bits)))

pub loop-i-smaller : goal.loop-i-smaller
loop-i-smaller c = omega (arith, from_le _ _ _ c.next_from-i-in-loop-i.ensures, c.loop-i-test.true)

pub loop-i-preserved : goal.loop-i-preserved
loop-i-preserved c =
    let t = c.loop-i-test.true in
    let exact = c.pairs_of.ensures.held in (
      gather_next _ _ _ _ _ _ exact _ _ _ _ c.next_from-i-in-loop-i.ensures
          (gather_turn _ _ _ _ _ _ exact _ _ _ c.loop-i.invariant.0 t (c.loop-i.invariant.1 t) _ c.pair_at-v.ensures _ c.offered.ensures),
      λ h. from_kept _ _ _ c.next_from-i-in-loop-i.ensures (omega (arith, h, c.requires.0.enough, c.pairs_of.auto.bits)),
    )

pub returns : goal.returns
returns c =
    bounded_row c.args.p.words.now c.args.q.words.now _ _ _ _ c.args.p.opens c.args.q.opens c.args.k c.requires.2 c.requires.3 c.args.g c.requires.4 c.args.j c.requires.1 _
    (gather_end _ _ _ _ _ _ _ _ c.loop-i.invariant.0 c.loop-i-test.false
    ∙ ap (λ (big : ℕ). search_of (gathered shorter c.args.k (row (small_for big full (points_of c.args.p.words.now) (points_of c.args.q.words.now)) (pair_at (points_of c.args.p.words.now) (points_of c.args.q.words.now)) c.args.j c.args.p.n 0) (held c.args.g))) c.bound-largest.ensures)
