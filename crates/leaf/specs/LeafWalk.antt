-- The filter walk of a leaf run: one walk of P serves all chambers of a leaf of Q. "in table order as in 01, and another chamber of the leaf rules out a
-- partner just as a kept pump house does. A box is skipped exactly when each chamber of the leaf skips it."
-- The chambers stand at q 0, q 1, .. up to q (c - 1). Each has a kept set of its own on so many words, the sets one behind the other on the lent words.
use Rattle.std.specs.Prelude.{Bool, cond, not, ◌&&◌, ◌||◌, List, ℕ, ◌+◌, ◌*◌, eqb, ℤ}
use Rattle.words.specs.All.{all_b}
use Rattle.plane.specs.declared.Spot.{Spot}
use Rattle.plane.specs.Rule.{drops, drops_box}
use Rattle.sheet.specs.Layout.{points, nodes}
use Rattle.sheet.specs.Order.{order_of}
use Rattle.sheet.specs.Nodes.{first_of}
use Rattle.sheet.specs.Places.{spot_of, box_of}
use Rattle.bits.specs.Set.{kept, with, none}
use Rattle.walk.specs.Walk.{in_turn, walk, walk_all}
use Rattle.walk.specs.FilterWalk.{Kept, so_far}

-- the bit of position i in the kept set of chamber k
abbrev pub slot : ℕ → ℕ → ℕ → ℕ
slot words k i = 64 * (words * k) + i

-- the test holds at some number below the bound
abbrev pub some_b : ℕ → (ℕ → Bool) → Bool
some_b n p = not (all_b n (λ i. not (p i)))

-- the position of the chamber at place k of the leaf v of Q, and where it stands
unfoldable pub chamber_at : List ℤ → ℕ → ℕ → ℕ
chamber_at w v k = order_of w (points w) (first_of w (points w) v + k)

unfoldable pub chamber_spot : List ℤ → ℕ → ℕ → Spot
chamber_spot w v k = spot_of w (chamber_at w v k)

module _ (q : ℕ → Spot) (c words : ℕ) (w : List ℤ) (n : ℕ) where
  -- what rules out a partner of chamber k: a pump house that is kept for it has the test, or another chamber of the leaf [L4]
  unfoldable pub ruled_out : (Spot → Bool) → ℕ → List ℕ → Bool
  ruled_out by k b = some_b n (λ p. kept b (slot words k p) && by (spot_of w p)) || some_b c (λ h. not (eqb h k) && by (q h))

  -- for chamber k, position i is skipped or kept [L4, O5]
  unfoldable pub weigh : ℕ → ℕ → List ℕ → List ℕ
  weigh i k b = cond (ruled_out (λ p. drops (q k) p (spot_of w i)) k b) b (with b (slot words k i))

  -- for each chamber in turn, the position standing at place r [L3]
  unfoldable pub leaf_take : ℕ → Kept → Kept
  leaf_take r k = so_far (in_turn (weigh (order_of w n r)) c 0 k.bits) k.opened

  -- chamber k skips the box of node j [L5, O5]
  unfoldable pub skips : ℕ → List ℕ → ℕ → Bool
  skips j b k = ruled_out (λ p. drops_box (q k) p (box_of w n j)) k b

  -- "A box is skipped exactly when each chamber of the leaf skips it", else its node is opened [L5]
  unfoldable pub leaf_visit : ℕ → (Kept → Kept) → Kept → Kept
  leaf_visit j go k = cond (all_b c (skips j k.bits)) k (go (so_far k.bits (k.opened + 1)))

  -- the walk from node j on level l down
  unfoldable pub leaf_node : ℕ → ℕ → Kept → Kept
  leaf_node l j k = walk w n leaf_visit leaf_take l j k

-- the walk of a whole sheet P for c chambers, on sixteen times so many words: all kept sets, and the nodes opened [L3]
unfoldable pub leaf_kept : (ℕ → Spot) → ℕ → ℕ → List ℤ → Kept
leaf_kept q c words w = walk_all w (points w) (nodes w) (leaf_visit q c words w (points w)) (leaf_take q c words w (points w)) (so_far (none (16 * words)) 0)

-- position i is kept for chamber k
abbrev pub leaf_keeps : (ℕ → Spot) → ℕ → ℕ → List ℤ → ℕ → ℕ → Bool
leaf_keeps q c words w k i = kept (leaf_kept q c words w).bits (slot words k i)
