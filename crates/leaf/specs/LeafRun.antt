-- One run per leaf: "For one leaf of Q, named by node number, give the ring pairs of its points by place, then p id".
use Rattle.std.specs.Prelude.{◌≡◌, cond, ◌&&◌, List, [], ◌∷◌, ℕ, zero, suc, ◌+◌, ◌*◌, ◌-◌, ◌/◌, ◌%◌, ◌<◌, ltb, length, ℤ}
use Rattle.bits.specs.Set.{kept}
use Rattle.sheet.specs.Layout.{points}
use Rattle.sheet.specs.Nodes.{count_of}
use Rattle.sheet.specs.Boxes.{sum_over}
use Rattle.sheet.specs.Places.{points_of}
use Rattle.list.specs.declared.Pair.{Pair}
use Rattle.list.specs.Rows.{list_by}
use Rattle.list.specs.RingList.{ring_pair, pair_at}
use Rattle.walk.specs.RingWalk.{pair_walk}
use Rattle.leaf.specs.LeafWalk.{slot, leaf_kept, leaf_keeps, chamber_at, chamber_spot}

-- the ring pairs of the chambers of leaf v, "by place, then p id" [L1, L6]
unfoldable pub leaf_list : List ℤ → List ℤ → ℕ → List Pair
leaf_list P Q v =
    list_by (λ k i. ring_pair (points_of P) (points_of Q) (chamber_at Q v k) i) (λ k i. pair_at (points_of P) (points_of Q) (chamber_at Q v k) i) (points P) (count_of Q (points Q) v)

-- "Its count is that walk's opened nodes plus those of each kept partner's ring walk." Each chamber's kept set is on so many words. [L7]
unfoldable pub leaf_opened : ℕ → List ℤ → List ℤ → ℕ → ℕ
leaf_opened words P Q v =
    (leaf_kept (chamber_spot Q v) (count_of Q (points Q) v) words P).opened
    + sum_over (λ k. sum_over (λ i. cond (leaf_keeps (chamber_spot Q v) (count_of Q (points Q) v) words P k i) (pair_walk P Q (chamber_at Q v k) i).opened 0) 0 (points P)) 0 (count_of Q (points Q) v)

-- ---- the run as it stands on the lent words: what the writer of its pairs goes by. No promise of an open call cites these.

-- exactly the ring pairs of the leaf are kept: for the chamber at each place, in its own set
pub record RunSet (P Q : List ℤ) (v words : ℕ) (b : List ℕ) : Type 0 where
  pub long : length b ≡ 16 * words
  pub exact : (k i : ℕ) → k < 16 → i < 64 * words → kept b (slot words k i) ≡ (ltb k (count_of Q (points Q) v) && ltb i (points P) && ring_pair (points_of P) (points_of Q) (chamber_at Q v k) i)

-- the pairs of the kept ones of f bits from x on: bit x is in the set of the chamber at place x / (64 * words), at position x % (64 * words)
unfoldable pub pairs_from : List ℤ → List ℤ → ℕ → ℕ → List ℕ → ℕ → ℕ → List Pair
pairs_from P Q v words b zero x = []
pairs_from P Q v words b (suc f) x =
    cond (kept b x)
    (pair_at (points_of P) (points_of Q) (chamber_at Q v (x / (64 * words))) (x % (64 * words)) ∷ pairs_from P Q v words b f (x + 1))
    (pairs_from P Q v words b f (x + 1))

-- the pairs of all kept bits from x on
abbrev pub left_from : List ℤ → List ℤ → ℕ → ℕ → List ℕ → ℕ → List Pair
left_from P Q v words b x = pairs_from P Q v words b (64 * length b - x) x
