-- The visits held, as the code has them. No promise of an open call cites this.
use Rattle.std.specs.Prelude.{◌≡◌, Bool, true, false, ℕ, ◌+◌, ◌-◌, ◌≤◌, ◌<◌, length, get_or}
use mathlib.Core.List.{List, Memᴰ}
use Rattle.plane.specs.Point.{Point}
use Rattle.list.specs.declared.Pair.{Pair}
use Rattle.list.specs.declared.Terms.{Terms}
use Rattle.ranked.specs.declared.Visit.{Visit}
use Rattle.sorting.specs.declared.Firsts.{Firsts}
use Rattle.sorting.specs.Firsts.{firsts_of, held_firsts, HeldFirsts}
use Rattle.ranked.specs.Urgent.{ahead, no_visit, last_score, score_of}

-- those that hold these visits; the visits held
abbrev pub tops_of : List Visit → Firsts Visit
tops_of s = firsts_of no_visit s

abbrev pub held_visits : Firsts Visit → List Visit
held_visits g = held_firsts g

-- at most k are held, in order, and the unused ones are zeros
abbrev pub HeldVisits : ℕ → Firsts Visit → Type 0
HeldVisits k g = HeldFirsts ahead no_visit k g

-- each visit held has a chamber with an id below this one
pub record Past (id : ℕ) (s : List Visit) : Type 0 where
  pub below : (v : Visit) → Memᴰ v s → v.pair.q < id

-- the scores of n points
pub record Scored (s : List ℕ) (n : ℕ) : Type 0 where
  pub long : length s ≡ n
  pub small : (i : ℕ) → i < n → get_or s i 0 ≤ last_score

-- no score is greater
pub record Greatest (s : List ℕ) (top : ℕ) : Type 0 where
  pub most : (i : ℕ) → i < length s → get_or s i 0 ≤ top
  pub fits : top ≤ last_score

-- a chamber whose pairs have at most this score cannot have one among the k: where that is said, k are held, and the last of them has at least that score
pub record Late (most k : ℕ) (g : Firsts Visit) (t : Bool) : Type 0 where
  pub full : t ≡ true → k ≤ g.count
  pub lower : t ≡ true → most ≤ (get_or g.rows (k - 1) no_visit).score

-- a pair with a score
abbrev pub scored : ℕ → Pair → Visit
scored n v = record { pair = v; score = n }

-- a pair of a chamber with this score, and the score of its pump house
abbrev pub with_score : List Point → List ℕ → ℕ → Pair → Visit
with_score P ps own v = record { pair = v; score = own + score_of P ps v.p }

-- terms of two sheets, with no threshold
pub record Listed (a : Terms) : Type 0 where
  pub two : a.own ≡ false
  pub all : a.threshold ≡ 0
