-- What the k shortest pairs of a list are, from the definitions alone.
--     shorter_before     what `shorter` says, in numbers
--     shortest_count     as many as k, or as the list has
--     shortest_only      pairs of the list
--     shortest_rises     in order: each is shorter than all that stand after it, so none stands there twice
--     shortest_pairs_first     and shorter than each pair of the list that is not among them
-- Assumes nothing.
use mathlib.Core.Path.{◌≡◌}
use mathlib.Core.Bool.{true}
use mathlib.Core.Logic.{◌⊎◌, inl, inr, ⊎_elim}
use mathlib.Core.List.{List, Memᴰ}
use Prim.Native.Nat.{ℕ, min, ◌<◌}
use native.Mathlib.Omega.{arith}
use lib.ListN.{length, get_or}
use Rattle.sorting.proofs.FirstMeaning.{first_long, ranked_only, first_rises, first_ahead}
use Rattle.list.specs.declared.Key.{Key}
use Rattle.list.specs.declared.Pair.{Pair}
use Rattle.list.specs.Pairs.{none, key_of, follows, ascends}
use Rattle.list.proofs.Order.{later}
use Rattle.shortest.specs.Order.{shorter, Before, shortest_of}
use Rattle.shortest.proofs.OrderLaws.{shorter_order, sized, pairs_apart}

-- ---- the order, in numbers

pub shorter_before : (v w : Pair) → shorter v w ≡ true → Before v w
shorter_before v w e =
    ⊎_elim
    (λ (x : v.size < w.size). inl x)
    (λ (x : (v.size ≡ w.size) × (follows (key_of v) (key_of w) ≡ true)). inr (x.0, later (key_of v) (key_of w) x.1))
    (sized v w e)

pub not_before : (v : Pair) → Before v v → ⊥
not_before v b =
    ⊎_elim
    (λ (x : v.size < v.size). omega arith)
    (λ (x : (v.size ≡ v.size) × ((v.q < v.q) ⊎ ((v.q ≡ v.q) × (v.p < v.p)))).
    ⊎_elim (λ (y : v.q < v.q). omega arith) (λ (y : (v.q ≡ v.q) × (v.p < v.p)). omega (arith, y.1)) x.1)
    b

-- ---- the k shortest

module _ (k : ℕ) (l : List Pair) where
  -- "k from 1 to 16, fewer if the list is shorter"
  pub shortest_count : length (shortest_of k l) ≡ min k (length l)
  shortest_count = first_long shorter k l

  pub shortest_only : (v : Pair) → Memᴰ v (shortest_of k l) → Memᴰ v l
  shortest_only = ranked_only shorter k l

  module _ (key : Key) (e : ascends key l ≡ true) where
    pub shortest_rises : (a b : ℕ) → a < b → b < length (shortest_of k l) → shorter (get_or (shortest_of k l) a none) (get_or (shortest_of k l) b none) ≡ true
    shortest_rises = first_rises shorter shorter_order k l (pairs_apart key l e) none

    pub shortest_pairs_first : (v w : Pair) → Memᴰ v l → (Memᴰ v (shortest_of k l) → ⊥) → Memᴰ w (shortest_of k l) → shorter w v ≡ true
    shortest_pairs_first = first_ahead shorter shorter_order k l (pairs_apart key l e)
