-- The ring rule of any profile on two sets of points, and the list that it makes. P is the pump houses, Q the chambers.
use Rattle.std.specs.Prelude.{Bool, not, ◌&&◌, List, ℕ, ◌<◌, length}
use Rattle.words.specs.All.{all_b}
use Rattle.plane.specs.declared.Spot.{Spot}
use Rattle.plane.specs.Rule.{SpotTo, SpotIn}
use Rattle.plane.specs.Profile.{Profile, circle}
use Rattle.plane.specs.Point.{Point, id_at, spot_at}
use Rattle.list.specs.declared.Pair.{Pair}
use Rattle.list.specs.Rows.{row, list_by, Rising}

module _ (f : Profile) where
  -- no record of a set blocks the pair a, b. An end of the pair stands at its own place, and so never does. [B3, R3, J3]
  unfoldable pub unblocked : List Point → Spot → Spot → Bool
  unblocked s a b = all_b (length s) (λ k. not (f.blocks a b (spot_at s k)))

  -- "(q, p) is a ring pair when no other record of P or Q blocks it": q is position j of Q, p is position i of P
  unfoldable pub ring_pair_by : List Point → List Point → ℕ → ℕ → Bool
  ring_pair_by P Q j i = unblocked Q (spot_at Q j) (spot_at P i) && unblocked P (spot_at Q j) (spot_at P i)

  -- the pair of two positions: "Each pair in pages, books and leaf runs now has its squared diameter beside the ids", and of the street grid "the size is the squared sum of
  -- absolute differences" [A9]
  abbrev pub pair_by : List Point → List Point → ℕ → ℕ → Pair
  pair_by P Q j i = record { q = id_at Q j; p = id_at P i; size = f.size (spot_at Q j) (spot_at P i) }

  -- the ring pairs of P and Q: "The list runs by q id, then p id"
  unfoldable pub ring_list_by : List Point → List Point → List Pair
  ring_list_by P Q = list_by (ring_pair_by P Q) (pair_by P Q) (length P) (length Q)

-- those of the circle [B2, B4, R3, G5, D2, X2]
abbrev pub ring_pair : List Point → List Point → ℕ → ℕ → Bool
ring_pair = ring_pair_by circle

-- [Z1]
abbrev pub pair_at : List Point → List Point → ℕ → ℕ → Pair
pair_at = pair_by circle

-- [R4, R5, R7, L6, Z2, O6, D2, V2]
abbrev pub ring_list : List Point → List Point → List Pair
ring_list = ring_list_by circle

-- the squared diameter of the circle on two places, as a number [Z1]
abbrev pub size_of : Spot → Spot → ℕ
size_of = circle.size

-- how many pairs of the list are of the chamber at position j
unfoldable pub partners_of : List Point → List Point → ℕ → ℕ
partners_of P Q j = length (row (ring_pair P Q) (pair_at P Q) j (length P) 0)

-- a set of points as a sheet holds them: ids ascending strictly, and each point where one of some form's may stand
pub record Sound (s : List Point) : Type 0 where
  pub rising : Rising (id_at s) (length s)
  pub near : (i : ℕ) → i < length s → SpotIn (spot_at s i)

-- its points stand in reach of a profile: so far from 0 as the sheets of its lists may have them
pub record Reached (f : Profile) (s : List Point) : Type 0 where
  pub in_reach : (i : ℕ) → i < length s → SpotTo f.reach (spot_at s i)
