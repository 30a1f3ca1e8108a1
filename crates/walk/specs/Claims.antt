-- What the theorems on the walks speak of: a position that drops another, a record that blocks, and the two walks of a pair.
use Rattle.std.specs.Prelude.{◌≡◌, true, false, ◌⊎◌, List, ℕ, ◌+◌, ◌<◌, ℤ}
use Rattle.plane.specs.declared.Spot.{Spot}
use Rattle.plane.specs.Rule.{drops, OnSide}
use Rattle.plane.specs.Profile.{Profile, FirstSide}
use Rattle.sheet.specs.Layout.{points, nodes}
use Rattle.sheet.specs.Order.{order_of}
use Rattle.sheet.specs.Nodes.{level_of}
use Rattle.sheet.specs.Boxes.{Below}
use Rattle.sheet.specs.Places.{spot_of, box_of}
use Rattle.bits.specs.Set.{kept}
use Rattle.walk.specs.declared.Answer.{Answer}
use Rattle.walk.specs.RingWalk.{ring_walk}

-- of a sheet of n points, a position is kept in b, and drops position i for q
pub record Dropper (w : List ℤ) (n : ℕ) (q : Spot) (b : List ℕ) (i : ℕ) : Type 0 where
  pub by : ℕ
  pub below : by < n
  pub is_kept : kept b by ≡ true
  pub dropping : drops q (spot_of w by) (spot_of w i) ≡ true

module _ (φ : Profile) where
  -- position i is one of the n, and blocks the pair a, b
  pub record Blocks (w : List ℤ) (n : ℕ) (a b : Spot) (i : ℕ) : Type 0 where
    pub below : i < n
    pub blocking : φ.blocks a b (spot_of w i) ≡ true

  -- side s of node j's box is the first of left, bottom, right, top that lies strictly inside, and on it such a position stands, at a place below the node [E1, A5]
  pub record BlocksBySide (w : List ℤ) (n : ℕ) (a b : Spot) (j s : ℕ) : Type 0 where
    pub first : FirstSide φ a b (box_of w n j) s
    pub place : ℕ
    pub under : Below w n (level_of w n j) j place
    pub on_side : OnSide s (box_of w n j) (spot_of w (order_of w n place))
    pub there : Blocks w n a b (order_of w n place)

  -- no position blocks
  abbrev pub Free : List ℤ → ℕ → Spot → Spot → Type 0
  Free w n a b = (i : ℕ) → i < n → φ.blocks a b (spot_of w i) ≡ false

-- an answer, with c more nodes opened
abbrev pub plus : ℕ → Answer → Answer
plus c s = record { hit = s.hit; opened = c + s.opened }

-- the two walks for q at position j of Q and p at position i of P, each of one sheet
module _ (φ : Profile) (P Q : List ℤ) (j i : ℕ) where
  abbrev pub over_q : Answer
  over_q = ring_walk φ 1 Q (spot_of Q j) (spot_of P i)

  abbrev pub over_p : Answer
  over_p = ring_walk φ 0 P (spot_of Q j) (spot_of P i)

  -- position k of the set blocks the pair: of Q, where the set is 1, or of P, where it is 0
  abbrev pub BlocksPair : ℕ → ℕ → Type 0
  BlocksPair set k = ((set ≡ 1) × Blocks φ Q (points Q) (spot_of Q j) (spot_of P i) k) ⊎ ((set ≡ 0) × Blocks φ P (points P) (spot_of Q j) (spot_of P i) k)

  -- on side s of node v of the set, the first of its box that lies strictly inside, stands such a record
  abbrev pub BlocksPairBySide : ℕ → ℕ → ℕ → Type 0
  BlocksPairBySide set v s =
      ((set ≡ 1) × (v < nodes Q) × BlocksBySide φ Q (points Q) (spot_of Q j) (spot_of P i) v s)
      ⊎ ((set ≡ 0) × (v < nodes P) × BlocksBySide φ P (points P) (spot_of Q j) (spot_of P i) v s)
