-- The lent numbers in which the walk keeps what waits, and what the functions of this crate ask of them.
use Rattle.std.specs.Prelude.{◌≡◌, false, List, [], ◌∷◌, ◌++◌, ℕ, zero, suc, ◌+◌, ◌-◌, ◌/◌, ◌%◌, ◌≤◌, ◌<◌, ℤ, length, get_or, drop, replicate}
use Rattle.plane.specs.declared.Spot.{Spot}
use Rattle.sheet.specs.Nodes.{first_of, count_of}
use Rattle.outward.specs.Waiting.{box_entry, point_entry, distance, before, insert}

-- sixteen numbers: those of the list, and then 0
unfoldable pub zero_filled : List ℕ → List ℕ
zero_filled l = l ++ replicate (16 - length l) 0

-- the number is that of a node or of a point, of a sheet of n points and m nodes
pub data Kind (n m e : ℕ) : Type 0 where
  box : (j : ℕ) → j < m → e ≡ box_entry j → Kind n m e
  point : (i : ℕ) → i < n → e ≡ point_entry m i → Kind n m e

-- what waits under a lent number is the number that its last 17 bits are: of 60,000 points and 24,000 nodes no number is over 84,000
abbrev pub entry_of : ℕ → ℕ
entry_of x = x % 131072

-- and that under the one at place k
abbrev pub entry_at : List ℕ → ℕ → ℕ
entry_at ws k = entry_of (get_or ws k 0)

-- as many numbers as there were, and those from k on as they were
pub record Past (k : ℕ) (ws ws' : List ℕ) : Type 0 where
  pub long : length ws' ≡ length ws
  pub rest : drop k ws' ≡ drop k ws

module _ (w : List ℤ) (n m : ℕ) (q : Spot) where
  -- a lent number: that of a node or of a point, and above its bits the squared distance without the last 17 of its own
  pub record Packed (x : ℕ) : Type 0 where
    pub kind : Kind n m (entry_of x)
    pub high : x / 131072 ≡ distance w n m q (entry_of x) / 131072

  -- the first c of the lent numbers are such numbers
  pub record Keys (ws : List ℕ) (c : ℕ) : Type 0 where
    pub each : (k : ℕ) → k < c → Packed (get_or ws k 0)

  -- what waits: what is under the first c of the lent numbers, each put in where it belongs [G6]
  unfoldable pub listed : List ℕ → ℕ → List ℕ
  listed ws zero = []
  listed ws (suc c) = insert w n m q (entry_at ws c) (listed ws c)

  -- they are a heap: none comes before the one above it, and above the places 2i + 1 and 2i + 2 is the place i
  pub record Heaped (ws : List ℕ) (c : ℕ) : Type 0 where
    pub keys : Keys ws c
    pub up : (i k : ℕ) → i + i + 1 ≤ k → k ≤ i + i + 2 → k < c → before w n m q (entry_at ws k) (entry_at ws i) ≡ false

  -- e, which comes first of the first c of ws, is taken out: the others are the first c - 1 of ws'
  pub record Taken (ws ws' : List ℕ) (c e : ℕ) : Type 0 where
    pub first : listed ws c ≡ e ∷ listed ws' (c - 1)
    pub heap : Heaped ws' (c - 1)
    pub past : Past (n + m) ws ws'

  -- of the places j and j + 1 before c, r is one, and what is there does not come before what is at r
  pub record Lesser (ws : List ℕ) (c j r : ℕ) : Type 0 where
    pub low : j ≤ r
    pub high : r ≤ j + 1
    pub few : r < c
    pub least : (k : ℕ) → j ≤ k → k ≤ j + 1 → k < c → before w n m q (entry_at ws k) (entry_at ws r) ≡ false

-- place or node k is in the run of what node j covers
pub record InRun (w : List ℤ) (n j k : ℕ) : Type 0 where
  pub low : first_of w n j ≤ k
  pub high : k < first_of w n j + count_of w n j

-- P holds of each
pub data Each (P : ℕ → Type 0) : List ℕ → Type 0 where
  none : Each P []
  more : {e : ℕ} {l : List ℕ} → P e → Each P l → Each P (e ∷ l)
