-- What the functions of this crate ask: a leaf of a sheet that opens, and words for sixteen kept sets. No promise of an open call cites these.
use Rattle.std.specs.Prelude.{◌≡◌, List, ℕ, ◌*◌, ◌≤◌, ◌<◌, ℤ, length}
use Rattle.sheet.specs.Nodes.{level_of, first_of, count_of}
use Rattle.sheet.specs.Open.{Opens}

-- v is a leaf of the sheet w, which covers c places from `first` on
pub record Leaf (w : List ℤ) (n m v first c : ℕ) : Type 0 where
  pub opens : Opens w n m
  pub here : v < m
  pub level : level_of w n v ≡ 0
  pub is_first : first ≡ first_of w n v
  pub is_count : c ≡ count_of w n v

-- b is sixteen times so many words, each of which has a position for every one of n
pub record Sets (b : List ℕ) (words n : ℕ) : Type 0 where
  pub long : length b ≡ 16 * words
  pub enough : n ≤ 64 * words
  pub small : words ≤ 1000
