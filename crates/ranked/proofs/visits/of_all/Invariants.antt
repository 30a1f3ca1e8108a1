-- `ranked::visits::of_all` meets its contract. The loop's invariant is `Visiting`: what is left of the list. Assumes nothing.
use mathlib.Core.Path.{◌≡◌, refl}
use lib.ListN.{length}
use Rattle.plane.specs.Point.{id_at}
use Rattle.sheet.specs.Places.{points_of}
use Rattle.list.specs.RingList.{pair_by}
use Rattle.list.specs.Terms.{profile_for}
use Rattle.chamber.specs.Sized.{listed_to}
use Rattle.ranked.specs.Urgent.{visit_of}
use Rattle.ranked.proofs.VisitsLaws.{Visiting, visit_pair}
use Rattle.ranked.proofs.visits.of_all.Given as goal

abbrev pub invariant-loop-j : goal.invariant-loop-j
invariant-loop-j l =
    Visiting (listed_to l.largest l.terms l.owners (points_of l.p.words.now) (points_of l.q.words.now)) (pair_by (profile_for l.terms) (points_of l.p.words.now) (points_of l.q.words.now)) (visit_of (points_of l.p.words.now) (points_of l.q.words.now) l.p_scores l.q_scores) (visit_pair (points_of l.p.words.now) (points_of l.q.words.now) l.p_scores l.q_scores) (id_at (points_of l.q.words.now)) (λ y x. refl) l.k l.p.n l.q.n l.g l.j
    × (length l.bits ≡ length l.initial.bits)
