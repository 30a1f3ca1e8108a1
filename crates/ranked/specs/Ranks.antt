-- The ranks held, as the code has them. No promise of an open call cites this.
use Rattle.std.specs.Prelude.{◌≡◌, Bool, true, ℕ, ◌-◌, ◌≤◌, ◌<◌, ℤ, length, get_or}
use mathlib.Core.List.{List, Memᴰ}
use Rattle.plane.specs.Point.{Point, id_at}
use Rattle.sheet.specs.declared.Size.{Size}
use Rattle.sheet.specs.Open.{Opens}
use Rattle.list.specs.declared.Terms.{Terms}
use Rattle.list.specs.Rows.{row}
use Rattle.list.specs.RingList.{pair_by}
use Rattle.list.specs.Terms.{profile_for}
use Rattle.chamber.specs.Sized.{small_for}
use Rattle.ranked.specs.declared.Rank.{Rank}
use Rattle.sorting.specs.declared.Firsts.{Firsts}
use Rattle.sorting.specs.Firsts.{firsts_of, held_firsts, HeldFirsts}
use Rattle.ranked.specs.Busiest.{busier, no_rank}

-- those that hold these ranks; the ranks held
abbrev pub ranks_of : List Rank → Firsts Rank
ranks_of s = firsts_of no_rank s

abbrev pub held_ranks : Firsts Rank → List Rank
held_ranks g = held_firsts g

-- at most k are held, in order, and the unused ones are zeros
abbrev pub HeldRanks : ℕ → Firsts Rank → Type 0
HeldRanks k g = HeldFirsts busier no_rank k g

-- each rank held has an id below this one
pub record Below (id : ℕ) (s : List Rank) : Type 0 where
  pub below : (v : Rank) → Memᴰ v s → v.id < id

-- a chamber with so many pairs that it cannot be among the k busiest: where that is said, k are held, and the last of them has at least as many
pub record Idle (pairs k : ℕ) (g : Firsts Rank) (t : Bool) : Type 0 where
  pub full : t ≡ true → k ≤ g.count
  pub fewer : t ≡ true → pairs ≤ (get_or g.rows (k - 1) no_rank).pairs

-- the chamber at position j, and how many pairs the rule makes of it
abbrev pub row_rank : ℕ → Terms → List Point → List Point → ℕ → Rank
row_rank big t P Q j = record { id = id_at Q j; pairs = length (row (small_for big t P Q) (pair_by (profile_for t) P Q) j (length P) 0) }

-- what a check hands on, where it refuses nothing: both sheets open with these counts, and k is from 1 to 16
pub record Ready (P Q : List ℤ) (hp hq : Size) (k : ℕ) : Type 0 where
  pub p_opens : Opens P hp.n hp.m
  pub q_opens : Opens Q hq.n hq.m
  pub some : 1 ≤ k
  pub most : k ≤ 16
