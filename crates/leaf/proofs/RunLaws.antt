-- The runs of all leaves are the list: each leaf's pairs are the ring pairs of its chambers, each once, and every ring pair is in the run of exactly one leaf.
-- Assumes nothing.
use mathlib.Core.Path.{◌≡◌, refl, sym, ap, subst, ◌∙◌}
use mathlib.Core.Bool.{Bool, true, false, cond}
use mathlib.Core.Logic.{⊎_elim}
use mathlib.Core.List.Memᴰ
use mathlib.Core.List.{List, [], ◌∷◌, ◌++◌, Memᴰ}
use Prim.Native.Nat.{ℕ, zero, suc, ◌+◌, ◌-◌, ◌≤◌, ◌<◌}
use native.Mathlib.Omega.{arith}
use native.Mathlib.Nat.{pos_of_ne-zero}
use lib.IntN.{ℤ}
use lib.ListN.{length, get_or}
use Rattle.plane.specs.Profile.{circle}
use Rattle.integers.proofs.Bools.{decide}
use Rattle.plane.specs.Point.{id_at}
use Rattle.sheet.specs.Layout.{points, nodes}
use Rattle.sheet.specs.Order.{order_of, rank_of}
use Rattle.sheet.specs.Nodes.{level_of, first_of, count_of}
use Rattle.sheet.specs.Boxes.{Below}
use Rattle.sheet.specs.Places.{points_of}
use Rattle.sheet.specs.Open.{Opens}
use Rattle.sheet.proofs.OrderLaws.{rank_below, order_rank, rank_order}
use Rattle.sheet.proofs.CoverLaws.{OneNode, one_node}
use Rattle.sheet.proofs.PointsLaws.{length_points, id_rises, id_low, id_high}
use Rattle.list.specs.declared.Pair.{Pair}
use Rattle.list.specs.Pairs.{none}
use Rattle.list.specs.Rows.{row, rows, list_by, Rising}
use Rattle.list.specs.RingList.{ring_pair, pair_at, ring_list}
use Rattle.list.proofs.RowLaws.{Placed, rows_placed, placed_rows, ring_iff, ring_only, by_id}
use Rattle.leaf.specs.LeafWalk.{chamber_at}
use Rattle.leaf.specs.LeafRun.{leaf_list}
use Rattle.leaf.proofs.LeafLaws.{leaf_place, chamber_in, chamber_once}

-- ---- each pair once, in whatever order

-- no pair of the list stands in it again
unfoldable pub Distinct : List Pair → Type 0
Distinct [] = Unit {0}
Distinct (v ∷ l) = (Memᴰ v l → ⊥) × Distinct l

distinct_append : (a b : List Pair) → Distinct a → Distinct b → ((v : Pair) → Memᴰ v a → Memᴰ v b → ⊥) → Distinct (a ++ b)
unfolding Distinct
distinct_append [] b x y f = y
distinct_append (v ∷ a) b x y f =
    (λ m. ⊎_elim (λ n. x.0 n) (λ n. f v (Memᴰ.head refl) n) (Memᴰ.append_cases a m), distinct_append a b x.1 y (λ u m n. f u (Memᴰ.tail m) n))

at_mem : (l : List Pair) (k : ℕ) → k < length l → Memᴰ (get_or l k none) l
at_mem [] k h = absurd (omega arith)
at_mem (v ∷ l) zero h = Memᴰ.head refl
at_mem (v ∷ l) (suc k) h = Memᴰ.tail (at_mem l k (omega arith))

pub distinct_once : (l : List Pair) → Distinct l → (a b : ℕ) → a < b → b < length l → get_or l a none ≡ get_or l b none → ⊥
unfolding Distinct
distinct_once [] d a b h g e = absurd (omega arith)
distinct_once (v ∷ l) d zero (suc b) h g e = d.0 (subst (λ (u : Pair). Memᴰ u l) (sym e) (at_mem l b (omega arith)))
distinct_once (v ∷ l) d (suc a) (suc b) h g e = distinct_once l d.1 a b (omega arith) (omega arith) e
distinct_once (v ∷ l) d a zero h g e = absurd (omega arith)

module _ (rule : ℕ → ℕ → Bool) (pair : ℕ → ℕ → Pair) (nq np : ℕ) (apart : (j i j' i' : ℕ) → j < nq → i < np → j' < nq → i' < np → pair j i ≡ pair j' i' → (j ≡ j') × (i ≡ i')) where
  -- the pairs of a row come from positions from i on
  row_from : (j k i : ℕ) (v : Pair) → Memᴰ v (row rule pair j k i) → (u : ℕ) × (i ≤ u) × (u < i + k) × (v ≡ pair j u)
  unfolding row
  row_from j zero i v m = absurd (Memᴰ.not-nil m)
  row_from j (suc k) i v m = go (row_from j k (i + 1) v) (rule j i) m
    where
      go : (Memᴰ v (row rule pair j k (i + 1)) → (u : ℕ) × (i + 1 ≤ u) × (u < i + 1 + k) × (v ≡ pair j u)) → (b : Bool) → Memᴰ v (cond b (pair j i ∷ row rule pair j k (i + 1)) (row rule pair j k (i + 1))) → (u : ℕ) × (i ≤ u) × (u < i + suc k) × (v ≡ pair j u)
      go ih true n = ⊎_elim (λ (x : v ≡ pair j i). (i, omega arith, omega arith, x)) (λ x. let y = ih x in (y.0, omega (arith, y.1), omega (arith, y.2), y.3)) (Memᴰ.cases_cons n)
      go ih false n = let y = ih n in (y.0, omega (arith, y.1), omega (arith, y.2), y.3)

  row_distinct : (j k i : ℕ) → j < nq → i + k ≤ np → Distinct (row rule pair j k i)
  unfolding row Distinct
  row_distinct j zero i a h = tt
  row_distinct j (suc k) i a h =
      let d = row_distinct j k (i + 1) a (omega arith) in
      ⊎_elim
      (λ (e : rule j i ≡ true). rw e (λ m. let y = row_from j k (i + 1) (pair j i) m in absurd (omega (arith, y.1, (apart j i j y.0 a (omega arith) a (omega (arith, y.2)) y.3).1)), d))
      (λ (e : rule j i ≡ false). rw e d)
      (decide (rule j i))

  rows_from : (k j : ℕ) (v : Pair) → Memᴰ v (rows rule pair np k j) → (t u : ℕ) × (j ≤ t) × (t < j + k) × (u < np) × (v ≡ pair t u)
  unfolding rows
  rows_from zero j v m = absurd (Memᴰ.not-nil m)
  rows_from (suc k) j v m =
      ⊎_elim
      (λ x. let y = row_from j np 0 v x in (j, y.0, omega arith, omega arith, omega (arith, y.2), y.3))
      (λ x. let y = rows_from k (j + 1) v x in (y.0, y.1, omega (arith, y.2), omega (arith, y.3), y.4, y.5))
      (Memᴰ.append_cases (row rule pair j np 0) m)

  rows_distinct : (k j : ℕ) → j + k ≤ nq → Distinct (rows rule pair np k j)
  unfolding rows Distinct
  rows_distinct zero j h = tt
  rows_distinct (suc k) j h =
      distinct_append (row rule pair j np 0) (rows rule pair np k (j + 1)) (row_distinct j np 0 (omega arith) (omega arith)) (rows_distinct k (j + 1) (omega arith))
      (λ v m n.
      let y = row_from j np 0 v m in
      let z = rows_from k (j + 1) v n in
      absurd (omega (arith, z.2, (apart j y.0 z.0 z.1 (omega arith) (omega (arith, y.2)) (omega (arith, z.3)) z.4 (sym y.3 ∙ z.5)).0)))

-- ---- the runs of two sheets that open

module _ (P Q : List ℤ) (p_opens : Opens P (points P) (nodes P)) (q_opens : Opens Q (points Q) (nodes Q)) where
  rise_p : Rising (id_at (points_of P)) (length (points_of P))
  rise_p = record { rises = id_rises p_opens; low = id_low p_opens; high = id_high p_opens }

  rise_q : Rising (id_at (points_of Q)) (length (points_of Q))
  rise_q = record { rises = id_rises q_opens; low = id_low q_opens; high = id_high q_opens }

  -- a pair of ids names its two positions
  pair_apart : (j i j' i' : ℕ) → j < points Q → i < points P → j' < points Q → i' < points P → pair_at (points_of P) (points_of Q) j i ≡ pair_at (points_of P) (points_of Q) j' i' → (j ≡ j') × (i ≡ i')
  pair_apart j i j' i' a b c d e = (
    by_id (id_at (points_of Q)) (length (points_of Q)) rise_q j j' (omega (arith, length_points Q)) (omega (arith, length_points Q)) (ap (λ (v : Pair). v.q) e),
    by_id (id_at (points_of P)) (length (points_of P)) rise_p i i' (omega (arith, length_points P)) (omega (arith, length_points P)) (ap (λ (v : Pair). v.p) e),
  )

  module _ (v : ℕ) (v-in : v < nodes Q) (v-leaf : level_of Q (points Q) v ≡ 0) where
    -- the run of a leaf holds nothing but ring pairs of its chambers ..
    pub run_placed : (x : Pair) → Memᴰ x (leaf_list P Q v)
        → Placed (λ k i. ring_pair (points_of P) (points_of Q) (chamber_at Q v k) i) (λ k i. pair_at (points_of P) (points_of Q) (chamber_at Q v k) i) (points P) (count_of Q (points Q) v) x
    unfolding leaf_list list_by
    run_placed x m = rows_placed _ _ (count_of Q (points Q) v) (points P) (count_of Q (points Q) v) 0 x (omega arith) m

    pub run_listed : (x : Pair) → Memᴰ x (leaf_list P Q v) → Memᴰ x (ring_list (points_of P) (points_of Q))
    run_listed x m =
        let y = run_placed x m in
        subst (λ (u : Pair). Memᴰ u (ring_list (points_of P) (points_of Q))) (sym y.is)
        ((ring_iff circle (points_of P) (points_of Q) rise_p rise_q (chamber_at Q v y.at_q) y.at_p (omega (arith, length_points Q, chamber_in Q q_opens v v-in v-leaf y.at_q y.q_in)) (omega (arith, length_points P, y.p_in))).1 y.holds)

    -- .. each of them ..
    pub run_holds : (k i : ℕ) → k < count_of Q (points Q) v → i < points P → ring_pair (points_of P) (points_of Q) (chamber_at Q v k) i ≡ true → Memᴰ (pair_at (points_of P) (points_of Q) (chamber_at Q v k) i) (leaf_list P Q v)
    unfolding leaf_list list_by
    run_holds k i a b e = placed_rows (λ k i. ring_pair (points_of P) (points_of Q) (chamber_at Q v k) i) (λ k i. pair_at (points_of P) (points_of Q) (chamber_at Q v k) i) (count_of Q (points Q) v) (points P) (count_of Q (points Q) v) 0 k i (omega arith) (omega arith) b e

    -- .. and each once
    pub leaf_run_once : (a b : ℕ) → a < b → b < length (leaf_list P Q v) → get_or (leaf_list P Q v) a none ≡ get_or (leaf_list P Q v) b none → ⊥
    unfolding leaf_list list_by
    leaf_run_once =
        distinct_once _
        (rows_distinct (λ k i. ring_pair (points_of P) (points_of Q) (chamber_at Q v k) i) (λ k i. pair_at (points_of P) (points_of Q) (chamber_at Q v k) i) (count_of Q (points Q) v) (points P)
        (λ j i j' i' a b c d e.
        let x = pair_apart (chamber_at Q v j) i (chamber_at Q v j') i' (chamber_in Q q_opens v v-in v-leaf j a) b (chamber_in Q q_opens v v-in v-leaf j' c) d e in
        (chamber_once Q q_opens v v-in v-leaf j j' a c x.0, x.1))
        (count_of Q (points Q) v) 0 (omega arith))

  -- a leaf whose run has the pair, and no other has it
  pub record InRun (x : Pair) : Type 0 where
    pub leaf : ℕ
    pub here : leaf < nodes Q
    pub level : level_of Q (points Q) leaf ≡ 0
    pub in_run : Memᴰ x (leaf_list P Q leaf)
    pub only : (u : ℕ) → u < nodes Q → level_of Q (points Q) u ≡ 0 → Memᴰ x (leaf_list P Q u) → u ≡ leaf

  -- "Over all leaves the pairs are 01's list, each once."
  pub listed_run : (x : Pair) → Memᴰ x (ring_list (points_of P) (points_of Q)) → InRun x
  unfolding chamber_at Below
  listed_run x m = record { leaf = v.node; here = v.here; level = v.level; in_run = there; only = only }
    where
      y : Placed (ring_pair (points_of P) (points_of Q)) (pair_at (points_of P) (points_of Q)) (length (points_of P)) (length (points_of Q)) x
      y = ring_only circle (points_of P) (points_of Q) rise_p rise_q x m

      j_in : y.at_q < points Q
      j_in = omega (arith, length_points Q, y.q_in)

      i_in : y.at_p < points P
      i_in = omega (arith, length_points P, y.p_in)

      place : ℕ
      place = rank_of Q (points Q) y.at_q

      some : 0 < nodes Q
      some = pos_of_ne-zero (λ z. absurd (omega (arith, q_opens.empty z, j_in)))

      -- the leaf in which q stands
      v : OneNode Q (points Q) (nodes Q) 0 place
      v = one_node Q (points Q) (nodes Q) q_opens.table some place (rank_below Q (points Q) q_opens.ordered y.at_q j_in) 0 (omega arith)

      k : ℕ
      k = place - first_of Q (points Q) v.node

      at : chamber_at Q v.node k ≡ y.at_q
      at =
          let e : first_of Q (points Q) v.node + k ≡ place = omega (arith, v.below.0) in
          ap (order_of Q (points Q)) e ∙ order_rank Q (points Q) q_opens.ordered y.at_q j_in

      there : Memᴰ x (leaf_list P Q v.node)
      there =
          let h = run_holds v.node v.here v.level k y.at_p (omega (arith, v.below.0, v.below.1)) i_in (ap (λ (j : ℕ). ring_pair (points_of P) (points_of Q) j y.at_p) at ∙ y.holds) in
          subst (λ (u : Pair). Memᴰ u (leaf_list P Q v.node)) (ap (λ (j : ℕ). pair_at (points_of P) (points_of Q) j y.at_p) at ∙ sym y.is) h

      only : (u : ℕ) → u < nodes Q → level_of Q (points Q) u ≡ 0 → Memᴰ x (leaf_list P Q u) → u ≡ v.node
      only u h l n =
          let z = run_placed u h l x n in
          let e = (pair_apart y.at_q y.at_p (chamber_at Q u z.at_q) z.at_p j_in i_in (chamber_in Q q_opens u h l z.at_q z.q_in) z.p_in (sym y.is ∙ z.is)).0 in
          let r : place ≡ first_of Q (points Q) u + z.at_q = ap (rank_of Q (points Q)) e ∙ rank_order Q (points Q) q_opens.ordered (first_of Q (points Q) u + z.at_q) (leaf_place Q q_opens u h l z.at_q z.q_in) in
          v.only u h l (omega (arith, r), omega (arith, r, z.q_in))
