-- `nearest::given` meets its contract. The loop's invariant is `Listing`: the first k pump houses are listed. Assumes nothing.
use mathlib.Core.Path.{◌≡◌}
use lib.ListN.{length, take}
use Rattle.outward.specs.NearWalk.{near_order}
use Rattle.nearest.specs.Nearest.{near_at}
use Rattle.nearest.proofs.AnswerLaws.{Listing}
use Rattle.nearest.proofs.given.Given as goal

abbrev pub invariant-loop-k : goal.invariant-loop-k
invariant-loop-k l = Listing (near_at l.p.words.now l.q) (take l.size (near_order l.p.words.now l.q)) l.points l.k × (length l.points ≡ 16)
