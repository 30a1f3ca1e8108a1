-- Whose a chamber is, and two runs that differ in the ids of the other contractor's chambers.
use Rattle.std.specs.Prelude.{◌≡◌, Bool, ◌&&◌, ◌||◌, List, ℕ, ◌<◌, eqb, leb, length, get_or}
use Rattle.words.specs.All.{all_b}
use Rattle.plane.specs.Point.{Point, id_at, spot_at}

-- "A lent byte per chamber, by position, says 0 or 1: whose it is": contractor c has the chamber at position j. An undivided list, of contractor 2, has all. [U1, U4]
abbrev pub mine : ℕ → List ℕ → ℕ → Bool
mine c o j = eqb c 2 || eqb (get_or o j 2) c

-- "one 0 or 1 a chamber", for n chambers [U1, U14]
unfoldable pub one_each : List ℕ → ℕ → Bool
one_each o n = eqb (length o) n && all_b n (λ j. leb (get_or o j 2) 1)

-- "if only these change, each record keeping its place and owner though its position may move": the chambers of two runs, with their owner bytes, differ in the ids of those that are
-- not c's, and in the positions that follow from these [U5, U6]
pub record Renamed (c : ℕ) (Q : List Point) (o : List ℕ) (Q' : List Point) (o' : List ℕ) : Type 0 where
  pub to : ℕ → ℕ
  pub back : ℕ → ℕ
  pub to_in : (j : ℕ) → j < length Q → to j < length Q'
  pub back_in : (j : ℕ) → j < length Q' → back j < length Q
  pub to_back : (j : ℕ) → j < length Q' → to (back j) ≡ j
  pub back_to : (j : ℕ) → j < length Q → back (to j) ≡ j
  pub place : (j : ℕ) → j < length Q → spot_at Q' (to j) ≡ spot_at Q j
  pub owner : (j : ℕ) → j < length Q → get_or o' (to j) 2 ≡ get_or o j 2
  pub own_id : (j : ℕ) → j < length Q → get_or o j 2 ≡ c → id_at Q' (to j) ≡ id_at Q j
  -- the bytes are as many
  pub as_many : length o ≡ length o'
