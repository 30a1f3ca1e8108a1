-- `ranked::busiest::of_all` meets its contract. The loop's invariant is `Going`: what is left of the chambers. Assumes nothing.
use mathlib.Core.Path.{◌≡◌}
use lib.ListN.{length}
use Rattle.sheet.specs.Places.{points_of}
use Rattle.list.specs.Contractor.{mine}
use Rattle.ranked.specs.Ranks.{row_rank}
use Rattle.ranked.proofs.RanksLaws.{Going}
use Rattle.ranked.proofs.busiest.of_all.Given as goal

abbrev pub invariant-loop-j : goal.invariant-loop-j
invariant-loop-j l =
    Going (mine l.terms.contractor l.owners) (row_rank l.largest l.terms (points_of l.p.words.now) (points_of l.q.words.now)) l.k l.q.n l.g l.j
    × (length l.bits ≡ length l.initial.bits)
