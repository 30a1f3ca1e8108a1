-- The order by size, then q id, then p id.
--     shorter_order     it is an order
--     sized, not_shorter     what it says of the sizes
--     pairs_apart       it tells the pairs of a list apart
-- Assumes nothing.
use mathlib.Core.Path.{◌≡◌}
use mathlib.Core.Bool.{true, false, ◌&&◌}
use mathlib.Core.Logic.{◌⊎◌, inl, inr, ⊎_elim}
use mathlib.Core.List.{List, [], ◌∷◌}
use Prim.Native.Nat.{◌<◌}
use native.Mathlib.Omega.{arith}
use lib.Dec.{eqb, ltb}
use borrow.Author.Tests.{ltb-true, lt-ltb, le-ltb, eqb-true, eq-eqb, ne_eqb}
use Rattle.integers.proofs.Bools.{decide, and_both, and_right, or_both_false}
use Rattle.sorting.specs.Ranking.{Apart}
use Rattle.sorting.proofs.LexLaws.{or_first, or_second, or_and, less_total}
use Rattle.list.specs.declared.Key.{Key}
use Rattle.list.specs.declared.Pair.{Pair}
use Rattle.list.specs.Pairs.{key_of, follows, ascends}
use Rattle.list.proofs.Order.{asc_member}
use Rattle.shortest.specs.Order.{shorter}
pub use Rattle.shortest.specs.Lawful.{shorter_order}

pub sized : (v w : Pair) → shorter v w ≡ true → (v.size < w.size) ⊎ ((v.size ≡ w.size) × (follows (key_of v) (key_of w) ≡ true))
unfolding shorter
sized v w e =
    ⊎_elim
    (λ (x : ltb v.size w.size ≡ true). inl (ltb-true v.size w.size x))
    (λ (x : (eqb v.size w.size ≡ true) × (follows (key_of v) (key_of w) ≡ true)). inr (eqb-true v.size w.size x.0, x.1))
    (or_and (ltb v.size w.size) (eqb v.size w.size) (follows (key_of v) (key_of w)) e)

-- a longer one is not
pub not_shorter : (v w : Pair) → w.size < v.size → shorter v w ≡ false
unfolding shorter
not_shorter v w h =
    or_both_false (ltb v.size w.size) (eqb v.size w.size && follows (key_of v) (key_of w)) (le-ltb v.size w.size (omega arith)) (rw (ne_eqb v.size w.size (λ e. omega arith)))

by_size : (v w : Pair) → v.size < w.size → shorter v w ≡ true
unfolding shorter
by_size v w h = or_first (ltb v.size w.size) (eqb v.size w.size && follows (key_of v) (key_of w)) (lt-ltb v.size w.size h)

by_key : (v w : Pair) → v.size ≡ w.size → follows (key_of v) (key_of w) ≡ true → shorter v w ≡ true
unfolding shorter
by_key v w e f =
    or_second (ltb v.size w.size) (eqb v.size w.size && follows (key_of v) (key_of w))
    (and_both (eqb v.size w.size) (follows (key_of v) (key_of w)) (eq-eqb v.size w.size e) f)

-- of two keys the pairs are told apart
keys_apart : (v w : Pair) → follows (key_of v) (key_of w) ≡ true → (shorter v w ≡ true) ⊎ (shorter w v ≡ true)
keys_apart v w h =
    ⊎_elim
    (λ (e : ltb w.size v.size ≡ true). inr (by_size w v (ltb-true w.size v.size e)))
    (λ (e : ltb w.size v.size ≡ false).
    ⊎_elim
    (λ (f : ltb v.size w.size ≡ true). inl (by_size v w (ltb-true v.size w.size f)))
    (λ (f : ltb v.size w.size ≡ false). inl (by_key v w (less_total v.size w.size f e) h))
    (decide (ltb v.size w.size)))
    (decide (ltb w.size v.size))

pub pairs_apart : (key : Key) (l : List Pair) → ascends key l ≡ true → Apart shorter l
unfolding ascends Apart
pairs_apart key [] e = tt
pairs_apart key (v ∷ l) e =
    let a = and_right (follows key (key_of v)) (ascends (key_of v) l) e in
    (λ w m. keys_apart v w (asc_member (key_of v) w l a m), pairs_apart (key_of v) l a)
