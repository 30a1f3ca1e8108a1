-- What the walks of two sheets that open say, of the terms of a list, t apart: the page maker's `Walks`, by the terms' profile, with the ids and pairs of the sheets' points. For a self join
-- the one sheet stands in both places.
use Rattle.std.specs.Prelude.{◌≡◌, Bool, true, cond, ◌&&◌, List, ℕ, ◌+◌, ltb, ℤ}
use Rattle.plane.specs.Point.{id_at}
use Rattle.sheet.specs.Places.{spot_of, points_of}
use Rattle.walk.specs.FilterWalk.{keeps_by, keeps_opened}
use Rattle.walk.specs.SelfWalk.{pass_keeps_by, pass_opened}
use Rattle.walk.specs.RingWalk.{clear, ring_walk, pair_walk_by}
use Rattle.list.specs.declared.Terms.{Terms}
use Rattle.list.specs.RingList.{pair_by}
use Rattle.list.specs.Terms.{with_by, alone_by, profile_for}
use Rattle.join.specs.Walks.{Walks}

-- What is kept of P for q, on so many words, and the ring walk of a pair. Of a self join "the filter passes over q, and kept partners of higher id get one ring walk", of the
-- one sheet, which is set 0. Of the street grid "all of P is kept and no filter nodes are counted". [J9, A6, A7]
abbrev pub walks_by : Terms → ℕ → List ℤ → List ℤ → Walks
walks_by a words P Q =
    record {
      kept = λ j i. cond a.own (pass_keeps_by (profile_for a) words P j i && ltb (id_at (points_of Q) j) (id_at (points_of P) i)) (keeps_by (profile_for a) words P (spot_of Q j) i);
      kept_opened = λ j. cond a.own (pass_opened (profile_for a) words P j) (keeps_opened (profile_for a) words P (spot_of Q j));
      clear = λ j i. cond a.own (clear (ring_walk (profile_for a) 0 P (spot_of Q j) (spot_of P i)).hit) (clear (pair_walk_by (profile_for a) P Q j i).hit);
      clear_opened = λ j i. cond a.own (ring_walk (profile_for a) 0 P (spot_of Q j) (spot_of P i)).opened (pair_walk_by (profile_for a) P Q j i).opened;
      qid = λ j. id_at (points_of Q) j;
      pair = λ j i. pair_by (profile_for a) (points_of P) (points_of Q) j i;
    }

-- those of a profile's full list of two sheets, and of its self join
abbrev pub walks_of : Bool → ℕ → List ℤ → List ℤ → Walks
walks_of g words P Q = walks_by (with_by g 0) words P Q

-- [J9]
abbrev pub self_walks : Bool → ℕ → List ℤ → Walks
self_walks g words S = walks_by (alone_by g) words S S

-- ---- what the code goes by. No promise of an open call cites this.

-- the position that the partners of the q at j start from: of a self join those after j, whose ids are higher
unfoldable pub start_for : Terms → ℕ → ℕ
start_for a j = cond a.own (j + 1) 0

-- a self join is of one sheet in both places, and has no t
pub record Alone (a : Terms) (P Q : List ℤ) : Type 0 where
  pub one : a.own ≡ true → P ≡ Q
  pub no_t : a.own ≡ true → a.threshold ≡ 0
