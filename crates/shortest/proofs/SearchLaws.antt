-- The search for the shortest pairs: one pair put among those held, a chamber pair by pair, and one chamber after the other.
--     bound_by, bounded_row     no pair that is longer than the bound is among the k
--     Gathering      the loop over a chamber's pairs: gather_start, gather_next, gather_turn, gather_end
--     Going          the loop over the chambers: shortest_going_start, going_on, all_gathered
-- Assumes nothing.
use mathlib.Core.Path.{◌≡◌, sym, ap, subst, ◌∙◌}
use mathlib.Core.Bool.{Bool, true, false}
use mathlib.Core.Logic.{⊎_elim}
use mathlib.Core.List.{List, [], ◌∷◌, Memᴰ}
use Prim.Native.Nat.{ℕ, zero, suc, ◌+◌, ◌-◌, ◌≤◌, ◌<◌}
use native.Mathlib.Omega.{arith}
use lib.Dec.{leb, ltb}
use lib.IntN.{ℤ}
use lib.ListN.{length, take, get_or, length-take}
use borrow.Author.Tests.{ltb-true, ltb-false, lt-ltb, le-ltb, le-leb}
use Rattle.std.proofs.Common.{Option, None, Some, MatchOption}
use Rattle.integers.proofs.Bools.{decide, and_left, clash}
use Rattle.plane.specs.Profile.{circle}
use Rattle.plane.specs.Point.{Point, spot_at}
use Rattle.sorting.specs.Ranking.{put_by, sixteen, Sorted, gathered, Apart}
use Rattle.sorting.proofs.RankingLaws.{ranked_put_long, gathered_first, gathered_two, behind_stays, behind_on, behind_last}
use Rattle.sorting.proofs.FirstsLaws.{firsts_whole, held_is, firsts_held, held_gathered, fair_gathered, last_none, last_some, last_in_held}
use Rattle.sheet.specs.Places.{points_of}
use Rattle.sheet.specs.Open.{Opens}
use Rattle.bits.specs.Set.{kept, next_from}
use Rattle.list.specs.declared.Pair.{Pair}
use Rattle.list.specs.Pairs.{start, none, ascends}
use Rattle.list.specs.Pages.{padded}
use Rattle.list.specs.Rows.{row, rows, list_by}
use Rattle.list.specs.RingList.{ring_list_by, ring_pair, pair_at, size_of}
use Rattle.list.specs.Terms.{full, pair_for}
use Rattle.list.proofs.RowLaws.{ring_ascends, row_same}
use Rattle.join.proofs.Meaning.{points_rise}
use Rattle.chamber.specs.Sized.{small_for}
use Rattle.chamber.proofs.KeepLaws.{row_nil, row_yes, row_no, rest_yes, rest_skip, chamber_rest_end}
use Rattle.chamber.proofs.ListedLaws.{points_many, rows_next, rows_end}
use Rattle.chamber.proofs.WholeLaws.{small_ring}
use Rattle.sorting.specs.declared.Firsts.{Firsts}
use Rattle.sorting.specs.Firsts.{last_of}
use Rattle.shortest.specs.Order.{shorter, shortest_of}
use Rattle.shortest.specs.Answer.{pairs_of}
use Rattle.shortest.specs.Search.{held, search_of, HeldOrdered, bound_of}
use Rattle.shortest.proofs.OrderLaws.{shorter_order, not_shorter, pairs_apart}

-- ---- the bound

bound_few : (k : ℕ) (g : Firsts Pair) → g.count < k → 8_000_000_000_000_000_000 ≡ bound_of k g
unfolding bound_of
bound_few k g h = rw (lt-ltb g.count k h)

bound_full : (k : ℕ) (g : Firsts Pair) → k ≤ g.count → (get_or g.rows (k - 1) none).size ≡ bound_of k g
unfolding bound_of
bound_full k g h = rw (le-ltb g.count k h)

-- said of the last of k, where k are held
pub bound_by : (k : ℕ) (g : Firsts Pair) → k - 1 < length g.rows → (o : Option Pair) → o ≡ last_of k g → (b : ℕ) → MatchOption o (b ≡ 8_000_000_000_000_000_000) (λ (w : Pair). b ≡ w.size) → b ≡ bound_of k g
bound_by k g h None e b m = m ∙ bound_few k g (last_none shorter none k g h (sym e))
bound_by k g h (Some w) e b m =
    let y = last_some shorter none k g w (sym e) in
    m ∙ ap (λ (v : Pair). v.size) y.1 ∙ bound_full k g y.0

-- a rule that leaves out only pairs which are shorter than none of the k held: the same are gathered
module _ (a b : ℕ → ℕ → Bool) (pair : ℕ → ℕ → Pair) (j : ℕ) (less : (x : ℕ) → a j x ≡ true → b j x ≡ true) (k : ℕ) where
  gathered_less : (n i : ℕ) (s : List Pair) → length s ≡ k → ((x : ℕ) → b j x ≡ true → a j x ≡ false → (w : Pair) → Memᴰ w s → shorter (pair j x) w ≡ false)
      → gathered shorter k (row a pair j n i) s ≡ gathered shorter k (row b pair j n i) s
  unfolding gathered
  gathered_less zero i s l f = ap (λ (t : List Pair). gathered shorter k t s) (row_nil a pair j i ∙ sym (row_nil b pair j i))
  gathered_less (suc n) i s l f =
      ⊎_elim
      (λ (e : a j i ≡ true).
      ap (λ (t : List Pair). gathered shorter k t s) (row_yes a pair j n i e)
      ∙ gathered_less n (i + 1) (take k (put_by shorter (pair j i) s)) (omega (arith, length-take k (put_by shorter (pair j i) s), ranked_put_long shorter (pair j i) s)) (λ x p q. behind_on shorter shorter_order k (pair j x) (pair j i) s l (f x p q))
      ∙ ap (λ (t : List Pair). gathered shorter k t s) (sym (row_yes b pair j n i (less i e))))
      (λ (e : a j i ≡ false).
      ap (λ (t : List Pair). gathered shorter k t s) (row_no a pair j n i e)
      ∙ gathered_less n (i + 1) s l f
      ∙ ⊎_elim
      (λ (h : b j i ≡ true). ap (gathered shorter k (row b pair j n (i + 1))) (sym (behind_stays shorter k (pair j i) s l (f i h e))) ∙ ap (λ (t : List Pair). gathered shorter k t s) (sym (row_yes b pair j n i h)))
      (λ (h : b j i ≡ false). ap (λ (t : List Pair). gathered shorter k t s) (sym (row_no b pair j n i h)))
      (decide (b j i)))
      (decide (a j i))

module _ (P Q : List Point) (big j i : ℕ) where
  small_listed : small_for big full P Q j i ≡ true → ring_pair P Q j i ≡ true
  unfolding small_for pair_for
  small_listed e = and_left (ring_pair P Q j i) (leb (size_of (spot_at Q j) (spot_at P i)) big) e

  -- a pair that is left out is longer
  small_longer : ring_pair P Q j i ≡ true → small_for big full P Q j i ≡ false → big < size_of (spot_at Q j) (spot_at P i)
  unfolding small_for pair_for
  small_longer h e =
      ⊎_elim
      (λ (t : ltb big (size_of (spot_at Q j) (spot_at P i)) ≡ true). ltb-true big (size_of (spot_at Q j) (spot_at P i)) t)
      (λ (t : ltb big (size_of (spot_at Q j) (spot_at P i)) ≡ false). clash (rw (h, le-leb (size_of (spot_at Q j) (spot_at P i)) big (ltb-false big (size_of (spot_at Q j) (spot_at P i)) t))) e)
      (decide (ltb big (size_of (spot_at Q j) (spot_at P i))))

-- of a chamber's pairs to the bound the same are gathered as of all
module _ (P Q : List ℤ) (np mp nq mq : ℕ) (op : Opens P np mp) (oq : Opens Q nq mq) (k : ℕ) (some : 1 ≤ k) (most : k ≤ 16) (g : Firsts Pair) (h : HeldOrdered k g) (j : ℕ) (j_in : j < nq) where
  abbrev ring : ℕ → ℕ → Bool
  ring = ring_pair (points_of P) (points_of Q)

  abbrev pairing : ℕ → ℕ → Pair
  pairing = pair_at (points_of P) (points_of Q)

  abbrev small : ℕ → ℕ → ℕ → Bool
  small big = small_for big full (points_of P) (points_of Q)

  few_held : g.count < k → gathered shorter k (row (small (bound_of k g)) pairing j np 0) (held g) ≡ gathered shorter k (row ring pairing j np 0) (held g)
  few_held l =
      ap (λ (big : ℕ). gathered shorter k (row (small big) pairing j np 0) (held g)) (sym (bound_few k g l))
      ∙ ap (λ (t : List Pair). gathered shorter k t (held g))
      (row_same (small 8_000_000_000_000_000_000) ring pairing j np 0 (λ x a b. small_ring P Q np mp nq mq op oq j x (omega (arith, points_many Q nq mq oq)) (omega (arith, points_many P np mp op))))

  all_held : k ≤ g.count → gathered shorter k (row (small (bound_of k g)) pairing j np 0) (held g) ≡ gathered shorter k (row ring pairing j np 0) (held g)
  all_held l =
      let last = (last_in_held shorter none k some most g h l).0 in
      gathered_less (small (bound_of k g)) ring pairing j (λ x. small_listed (points_of P) (points_of Q) (bound_of k g) j x) k np 0 (held g) (omega (arith, h.long, h.few))
      (λ x p q.
      behind_last shorter shorter_order (pairing j x) none (held g) (k - 1) (omega (arith, h.long, h.few)) h.sorted
      (ap (shorter (pairing j x)) (sym last) ∙ not_shorter (pairing j x) (get_or g.rows (k - 1) none) (omega (arith, bound_full k g l, small_longer (points_of P) (points_of Q) (bound_of k g) j x p q))))

  pub bounded_row : (r : Firsts Pair) → r ≡ search_of (gathered shorter k (row (small (bound_of k g)) pairing j np 0) (held g)) → r ≡ search_of (gathered shorter k (row ring pairing j np 0) (held g))
  bounded_row r e =
      e ∙ ap search_of (⊎_elim (λ (t : ltb g.count k ≡ true). few_held (ltb-true g.count k t)) (λ (t : ltb g.count k ≡ false). all_held (ltb-false g.count k t)) (decide (ltb g.count k)))

-- ---- the loop over a chamber's pairs: g before it, r at position i

module _ (rule : ℕ → ℕ → Bool) (pair : ℕ → ℕ → Pair) (k j n : ℕ) where
  pub record Gathering (g r : Firsts Pair) (i : ℕ) : Type 0 where
    pub fair : HeldOrdered k r
    pub left : gathered shorter k (row rule pair j (n - i) i) (held r) ≡ gathered shorter k (row rule pair j n 0) (held g)

  module _ (b : List ℕ) (exact : (i : ℕ) → i < n → kept b i ≡ rule j i) where
    -- on to the next kept position
    pub gather_next : (g r : Firsts Pair) (x u : ℕ) → u ≡ next_from b x → Gathering g r x → Gathering g r u
    gather_next g r x u e s = record { fair = s.fair; left = ap (λ (l : List Pair). gathered shorter k l (held r)) (sym (rest_skip rule pair j n b (λ y h f. exact y h ∙ f) x u e)) ∙ s.left }

    pub gather_start : (g : Firsts Pair) → HeldOrdered k g → (u : ℕ) → u ≡ next_from b 0 → Gathering g g u
    gather_start g h u e =
        let z : n - 0 ≡ n = omega arith in
        gather_next g g 0 u e (record { fair = h; left = ap (λ (m : ℕ). gathered shorter k (row rule pair j m 0) (held g)) z })

    -- the pair there
    pub gather_turn : (g r : Firsts Pair) (i : ℕ) → Gathering g r i → i < n → kept b i ≡ true → (v : Pair) → v ≡ pair j i → (r' : Firsts Pair) → r' ≡ search_of (take k (put_by shorter v (held r))) → Gathering g r' (i + 1)
    unfolding gathered
    gather_turn g r i s h m v e r' f =
        record {
          fair = fair_gathered shorter none k (v ∷ []) r r' f shorter_order s.fair;
          left =
              ap (gathered shorter k (row rule pair j (n - (i + 1)) (i + 1))) (held_is shorter none (take k (put_by shorter v (held r))) r' f ∙ ap (λ (x : Pair). take k (put_by shorter x (held r))) e)
              ∙ ap (λ (l : List Pair). gathered shorter k l (held r)) (sym (rest_yes rule pair j n i h (sym (exact i h) ∙ m)))
              ∙ s.left;
        }

  pub gather_end : (g r : Firsts Pair) (i : ℕ) → Gathering g r i → n ≤ i → r ≡ search_of (gathered shorter k (row rule pair j n 0) (held g))
  unfolding gathered
  gather_end g r i s h =
      firsts_whole shorter none k r s.fair ∙ ap search_of (ap (λ (l : List Pair). gathered shorter k l (held r)) (sym (chamber_rest_end rule pair j n i h)) ∙ s.left)

-- ---- the loop over the chambers

module _ (rule : ℕ → ℕ → Bool) (pair : ℕ → ℕ → Pair) (k np nq : ℕ) where
  pub record Going (g : Firsts Pair) (j : ℕ) : Type 0 where
    pub most : j ≤ nq
    pub fair : HeldOrdered k g
    pub left : gathered shorter k (rows rule pair np (nq - j) j) (held g) ≡ shortest_of k (list_by rule pair np nq)

  pub shortest_going_start : Apart shorter (list_by rule pair np nq) → (g : Firsts Pair) → g ≡ search_of [] → Going g 0
  unfolding Sorted list_by
  shortest_going_start apart g e =
      let z : nq - 0 ≡ nq = omega arith in
      record {
        most = omega arith;
        fair = firsts_held shorter none k [] (omega arith) tt g e;
        left = ap (λ (m : ℕ). gathered shorter k (rows rule pair np m 0) (held g)) z ∙ ap (gathered shorter k (rows rule pair np nq 0)) (held_is shorter none [] g e) ∙ gathered_first shorter shorter_order k (rows rule pair np nq 0) apart;
      }

  pub going_on : (g : Firsts Pair) (j : ℕ) → Going g j → j < nq → (r : Firsts Pair) → r ≡ search_of (gathered shorter k (row rule pair j np 0) (held g)) → Going r (j + 1)
  going_on g j s h r e =
      record {
        most = omega arith;
        fair = fair_gathered shorter none k (row rule pair j np 0) g r e shorter_order s.fair;
        left =
            ap (gathered shorter k (rows rule pair np (nq - (j + 1)) (j + 1))) (held_gathered shorter none k (row rule pair j np 0) g r e)
            ∙ sym (gathered_two shorter k (row rule pair j np 0) (rows rule pair np (nq - (j + 1)) (j + 1)) (held g))
            ∙ ap (λ (l : List Pair). gathered shorter k l (held g)) (sym (rows_next rule pair np nq j h))
            ∙ s.left;
      }

  pub all_gathered : (l : List Pair) → list_by rule pair np nq ≡ l → (g : Firsts Pair) (j : ℕ) → Going g j → nq ≤ j → (g.count ≡ length (shortest_of k l)) × (g.rows ≡ padded (shortest_of k l))
  unfolding gathered padded sixteen
  all_gathered l f g j s h =
      let is : held g ≡ shortest_of k l = ap (λ (t : List Pair). gathered shorter k t (held g)) (sym (rows_end rule pair np nq j h)) ∙ s.left ∙ ap (shortest_of k) f in
      let whole = firsts_whole shorter none k g s.fair in
      (ap (λ (x : Firsts Pair). x.count) whole ∙ ap length is, ap (λ (x : Firsts Pair). x.rows) whole ∙ ap (sixteen none) is)

pub pairs_ascend : {P Q : List ℤ} {np mp nq mq : ℕ} → Opens P np mp → Opens Q nq mq → ascends start (pairs_of P Q) ≡ true
pairs_ascend {P} {Q} o o' = ring_ascends circle (points_of P) (points_of Q) (points_rise o) (points_rise o')

-- the pairs of all chambers are the ring pairs of the two sheets
module _ (P Q : List ℤ) (np mp nq mq : ℕ) (op : Opens P np mp) (oq : Opens Q nq mq) where
  pub whole_list : list_by (ring_pair (points_of P) (points_of Q)) (pair_at (points_of P) (points_of Q)) np nq ≡ pairs_of P Q
  unfolding ring_list_by
  whole_list =
      ap (λ (n : ℕ). list_by (ring_pair (points_of P) (points_of Q)) (pair_at (points_of P) (points_of Q)) n nq) (sym (points_many P np mp op))
      ∙ ap (λ (n : ℕ). list_by (ring_pair (points_of P) (points_of Q)) (pair_at (points_of P) (points_of Q)) (length (points_of P)) n) (sym (points_many Q nq mq oq))

  pub whole_apart : Apart shorter (list_by (ring_pair (points_of P) (points_of Q)) (pair_at (points_of P) (points_of Q)) np nq)
  whole_apart = subst (Apart shorter) (sym whole_list) (pairs_apart start (pairs_of P Q) (pairs_ascend op oq))
