-- `ranked::busiest::is_idle` meets its contract. Assumes nothing.
use mathlib.Core.Path.{sym, ap}
use Rattle.ranked.specs.declared.Rank.{Rank}
use Rattle.ranked.specs.Busiest.{busier, no_rank}
use Rattle.sorting.proofs.FirstsLaws.{last_some}
use Rattle.ranked.proofs.RanksLaws.{idle_said}
use Rattle.ranked.proofs.busiest.is_idle.Goals as goal

pub returns-in-Some : goal.returns-in-Some
returns-in-Some c =
    let y = last_some busier no_rank c.args.k c.args.g c.in-Some.last (sym c.in-Some.ensures) in
    idle_said _ _ _ y.0 _ _ c.has_at_most.ensures (ap (λ (v : Rank). v.pairs) y.1)
