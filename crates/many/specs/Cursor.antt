-- From one pair of a list to the next: what the code goes by. No promise of an open call cites this.
use Rattle.std.specs.Prelude.{◌≡◌, Bool, true, false, ◌&&◌, List, [], ◌++◌, ℕ, ◌-◌, ◌≤◌, ◌<◌}
use Rattle.plane.specs.Point.{Point, id_at}
use Rattle.bits.specs.Set.{kept}
use Rattle.list.specs.declared.Key.{Key}
use Rattle.list.specs.declared.Pair.{Pair}
use Rattle.list.specs.Pairs.{key_of, follows}
use Rattle.list.specs.Rows.{row, rows}
use Rattle.list.specs.RingList.{pair_at}

-- a rule, of pairs after a key
unfoldable pub late_to : (ℕ → ℕ → Bool) → (ℕ → ℕ → Pair) → Key → ℕ → ℕ → Bool
late_to rule pair key j i = rule j i && follows key (key_of (pair j i))

-- chambers before position r have ids below the key's
pub record Early (Q : List Point) (key : Key) (r : ℕ) : Type 0 where
  pub below : (j : ℕ) → j < r → id_at Q j < key.q

-- r is the first kept position from i on, of n, whose pair with the chamber at j is after the key; or it is past them, and there is none
pub record Seeks (P Q : List Point) (key : Key) (b : List ℕ) (j n i r : ℕ) : Type 0 where
  pub none_before : (y : ℕ) → i ≤ y → y < r → y < n → kept b y ≡ true → follows key (key_of (pair_at P Q j y)) ≡ false
  pub from : i ≤ r
  pub is_kept : r < n → kept b r ≡ true
  pub is_late : r < n → follows key (key_of (pair_at P Q j r)) ≡ true

module _ (rule : ℕ → ℕ → Bool) (pair : ℕ → ℕ → Pair) (key : Key) where
  -- what is left of a chamber's pairs after the key from position i on
  unfoldable pub rest_to : ℕ → ℕ → ℕ → List Pair
  rest_to j n i = row (late_to rule pair key) pair j (n - i) i

  -- the chamber at j is entered: its pairs after the key begin at position r, and they are kept on the words; or there are none
  pub record Entered (b : List ℕ) (j n r : ℕ) : Type 0 where
    pub all : rest_to j n 0 ≡ rest_to j n r
    pub held : r < n → (y : ℕ) → y < n → kept b y ≡ rule j y
    pub here : r < n → late_to rule pair key j r ≡ true

  -- what is left of the list, of nq chambers
  unfoldable pub left_to : ℕ → ℕ → ℕ → ℕ → ℕ → List Pair
  left_to n nq at i next = rest_to at n i ++ rows (late_to rule pair key) pair n (nq - next) next

-- the pairs of the chamber at hand are kept on the words, from position i on
pub record Holding (rule : ℕ → ℕ → Bool) (n nq : ℕ) (b : List ℕ) (at i next : ℕ) : Type 0 where
  pub most : next ≤ nq
  pub chamber : i < n → at < nq
  pub held : (y : ℕ) → i ≤ y → y < n → kept b y ≡ rule at y

-- the search goes on, from one place to another: what is left is the same, and where it found a pair that is its first
pub record Advanced (rule : ℕ → ℕ → Bool) (pair : ℕ → ℕ → Pair) (key : Key) (n nq : ℕ) (b : List ℕ) (at₀ i₀ next₀ at i next : ℕ) : Type 0 where
  pub holding : Holding rule n nq b at i next
  pub same : left_to rule pair key n nq at₀ i₀ next₀ ≡ left_to rule pair key n nq at i next
  pub here : i < n → late_to rule pair key at i ≡ true
  pub done : n ≤ i → left_to rule pair key n nq at i next ≡ []
