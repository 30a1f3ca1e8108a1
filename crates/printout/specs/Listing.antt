-- What the listing of two sets of points is, line by line.
use Rattle.std.specs.Prelude.{List, [], ◌∷◌, ◌++◌, ℕ, zero, suc, ◌+◌, ◌<◌, ◌+ℤ◌, length}
use Rattle.plane.specs.declared.Spot.{Spot}
use Rattle.plane.specs.Point.{Point, spot_at}
use Rattle.list.specs.declared.Pair.{Pair}
use Rattle.list.specs.Rows.{row}
use Rattle.list.specs.RingList.{ring_pair, pair_at, ring_list}
use Rattle.sheet.specs.Find.{position_of}
use Rattle.text.specs.Text.{line_text, end_text}

-- the set has the id
abbrev pub Has : List Point → ℕ → Type 0
Has s id = position_of s id < length s

-- where the record of an id stands
abbrev pub stands_at : List Point → ℕ → Spot
stands_at s id = spot_at s (position_of s id)

-- "q id, p id, twice the centre's x, twice its y, squared diameter": of a pair whose q stands at a and whose p stands at b. The squared diameter is the size that the pair
-- carries (`line_size` of proofs/ShowLaws). [X9]
unfoldable pub line_at : Pair → Spot → Spot → List ℕ
line_at v a b = line_text v.q v.p (a.x +ℤ b.x) (a.y +ℤ b.y) v.size

abbrev pub line_of : List Point → List Point → Pair → List ℕ
line_of P Q v = line_at v (stands_at Q v.q) (stands_at P v.p)

-- both ends of a pair are there
abbrev pub HasBoth : List Point → List Point → Pair → Type 0
HasBoth P Q v = Has Q v.q × Has P v.p

unfoldable pub lines_of : List Point → List Point → List Pair → List ℕ
lines_of P Q [] = []
lines_of P Q (v ∷ l) = line_of P Q v ++ lines_of P Q l

-- the ring pairs of the chamber at position j
abbrev pub ring_row : List Point → List Point → ℕ → List Pair
ring_row P Q j = row (ring_pair P Q) (pair_at P Q) j (length P) 0

-- the lines of the pairs of k chambers from position j on: what the program writes, chamber after chamber
unfoldable pub chambers_text : List Point → List Point → ℕ → ℕ → List ℕ
chambers_text P Q zero j = []
chambers_text P Q (suc k) j = lines_of P Q (ring_row P Q j) ++ chambers_text P Q k (j + 1)

-- a line for each ring pair, "last `end` and the number of pairs" [X9, X15]
unfoldable pub listing_of : List Point → List Point → List ℕ
listing_of P Q = lines_of P Q (ring_list P Q) ++ end_text (length (ring_list P Q))
