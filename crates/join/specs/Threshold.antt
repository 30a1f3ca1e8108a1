-- The walks of a page of t, "0 for the full list". "With t above 0 a page's count takes in all kept partners of each chamber reached, the last one too."
-- So where a chamber is reached, its filter walk and the ring walk of each kept partner, before the key or after it, are done and counted at once; which
-- of its pairs are listed is known then, and no walk is left to do for them. The work stops where it stops of the full list: at the first pair beyond the
-- size, or after the last q.
use Rattle.std.specs.Prelude.{true, cond, ◌&&◌, List, ℕ, zero, suc, ◌+◌, leb, ℤ, length}
use Rattle.plane.specs.Profile.{Profile}
use Rattle.plane.specs.Point.{id_at}
use Rattle.sheet.specs.Boxes.{sum_over}
use Rattle.sheet.specs.Places.{points_of}
use Rattle.bits.specs.Set.{kept}
use Rattle.list.specs.Rows.{row}
use Rattle.list.specs.RingList.{pair_by}
use Rattle.join.specs.Walks.{Walks}

module _ (w : Walks) (n : ℕ) where
  -- how many ring pairs the walks find for the q at j, with n positions of P
  unfoldable pub found_for : ℕ → ℕ
  found_for j = length (row (λ j i. w.kept j i && w.clear j i) w.pair j n 0)

  -- the nodes that the ring walks of its kept partners open
  unfoldable pub ring_opened : ℕ → ℕ
  ring_opened j = sum_over (λ i. cond (w.kept j i) (w.clear_opened j i) 0) 0 n

  -- each chamber reached is walked whole, and its pairs are listed where it has at least t
  unfoldable pub all_walked : ℕ → Walks
  all_walked t =
      record {
        kept = λ j i. w.kept j i && w.clear j i && leb t (found_for j);
        kept_opened = λ j. w.kept_opened j + ring_opened j;
        clear = λ j i. true;
        clear_opened = λ j i. 0;
        qid = w.qid;
        pair = w.pair;
      }

  -- the walks of a page of t [T7]
  unfoldable pub walks_for : ℕ → Walks
  walks_for zero = w
  walks_for (suc t) = all_walked (suc t)

-- "the smaller of t and the number of its pairs in the list"
unfoldable pub smaller : ℕ → ℕ → ℕ
smaller a b = cond (leb a b) a b

-- ---- a chamber's ring partners as they stand on words, for what is left to do of it. No promise of an open call cites this.

-- exactly the kept positions are ring partners, and no walk is left to do
abbrev pub on_words : Profile → List ℕ → List ℤ → List ℤ → Walks
on_words φ ws P Q =
    record {
      kept = λ j i. kept ws i;
      kept_opened = λ j. 0;
      clear = λ j i. true;
      clear_opened = λ j i. 0;
      qid = λ j. id_at (points_of Q) j;
      pair = λ j i. pair_by φ (points_of P) (points_of Q) j i;
    }
