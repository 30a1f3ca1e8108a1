-- Nobody is left with an empty sheet: a chamber and a pump house at the least distance are a ring pair, and of two sets that are not empty some couple is at
-- the least distance, so the list is not empty.
-- Assumes nothing.
use mathlib.Core.Path.{◌≡◌, ap}
use mathlib.Core.Bool.{true, false, not}
use mathlib.Core.Logic.{⊎_elim}
use mathlib.Core.List.Memᴰ
use mathlib.Core.List.{List, [], ◌∷◌, Memᴰ}
use Prim.Native.Nat.{ℕ, zero, suc, ◌<◌}
use native.Mathlib.Omega.{arith}
use lib.IntN.{ℤ}
use lib.ListN.{length}
use lib.Signed.{◌≤ℤ◌, ◌<ℤ◌}
use Rattle.integers.proofs.Order.{zl, total}
use Rattle.integers.proofs.Bools.{and_both, decide}
use Rattle.words.proofs.AllLaws.{all_make, below_suc}
use Rattle.plane.specs.declared.Spot.{Spot}
use Rattle.plane.specs.Rule.{blocks, size}
use Rattle.plane.specs.Profile.{circle}
use Rattle.plane.specs.Point.{Point, spot_at}
use Rattle.plane.proofs.NearLaws.{nearer_left, nearer_right}
use Rattle.list.specs.declared.Pair.{Pair}
use Rattle.list.specs.Rows.{list_by}
use Rattle.list.specs.RingList.{unblocked, ring_pair_by, ring_pair, pair_at, ring_list_by, ring_list}
use Rattle.list.specs.Nearest.{Nearest}
use Rattle.list.proofs.RowLaws.{placed_rows}

-- no record blocks, if none that blocks is there
none_blocks : (s : List Point) (a b : Spot) → ((k : ℕ) → k < length s → blocks a b (spot_at s k) ≡ true → ⊥) → unblocked circle s a b ≡ true
unfolding unblocked
none_blocks s a b f =
    all_make (λ k. not (blocks a b (spot_at s k))) (length s)
    (λ k h.
    ⊎_elim
    (λ (e : blocks a b (spot_at s k) ≡ true). absurd (f k h e))
    (λ (e : blocks a b (spot_at s k) ≡ false). ap not e)
    (decide (blocks a b (spot_at s k))))

module _ (P Q : List Point) where
  -- "every pump house and chamber at the least distance of all such couples is a ring pair": what blocks the pair would make a nearer couple, with p if it is a
  -- chamber and with q if it is a pump house
  pub nearest_pair : (j i : ℕ) → Nearest P Q j i → ring_pair P Q j i ≡ true
  unfolding ring_pair_by
  nearest_pair j i n =
      let a = spot_at Q j in
      let b = spot_at P i in
      let of-q : (k : ℕ) → k < length Q → blocks a b (spot_at Q k) ≡ true → ⊥ =
      λ k h e. no_way (size (spot_at Q k) b) (size a b) (nearer_right a b (spot_at Q k) e) (n.least k i h n.p_in) in
      let of-p : (k : ℕ) → k < length P → blocks a b (spot_at P k) ≡ true → ⊥ =
      λ k h e. no_way (size a (spot_at P k)) (size a b) (nearer_left a b (spot_at P k) e) (n.least j k n.q_in h) in
      and_both (unblocked circle Q a b) (unblocked circle P a b) (none_blocks Q a b of-q) (none_blocks P a b of-p)
    where
      no_way : (x y : ℤ) → x <ℤ y → y ≤ℤ x → ⊥
      no_way x y h k = omega zl

-- ---- the least of finitely many

record Least (f : ℕ → ℤ) (n : ℕ) : Type 0 where
  at : ℕ
  here : at < n
  least : (k : ℕ) → k < n → f at ≤ℤ f k

least_of : (f : ℕ → ℤ) (n : ℕ) → Least f (suc n)
least_of f zero = record { at = 0; here = omega arith; least = λ k h. let e : k ≡ 0 = omega arith in rw e (same (f 0)) }
  where
    same : (x : ℤ) → x ≤ℤ x
    same x = omega zl
least_of f (suc n) =
    let m = least_of f n in
    let best = f m.at in
    let last = f (suc n) in
    ⊎_elim
    (λ (h : best ≤ℤ last).
    record { at = m.at; here = omega (arith, m.here); least = λ k g. ⊎_elim (λ (e : k ≡ suc n). rw e h) (λ (l : k < suc n). m.least k l) (below_suc k (suc n) g) })
    (λ (h : last <ℤ best).
    record { at = suc n; here = omega arith; least = λ k g. ⊎_elim (λ (e : k ≡ suc n). rw e (same last)) (λ (l : k < suc n). under last best (f k) h (m.least k l)) (below_suc k (suc n) g) })
    (total best last)
  where
    same : (x : ℤ) → x ≤ℤ x
    same x = omega zl

    under : (x y z : ℤ) → x <ℤ y → y ≤ℤ z → x ≤ℤ z
    under x y z h k = omega zl

some : (f : ℕ → ℤ) (n : ℕ) → 0 < n → Least f n
some f zero h = absurd (omega arith)
some f (suc n) h = least_of f n

-- a couple at the least distance
pub record Couple (P Q : List Point) : Type 0 where
  pub at_q : ℕ
  pub at_p : ℕ
  pub nearest : Nearest P Q at_q at_p

module _ (P Q : List Point) (some-p : 0 < length P) (some-q : 0 < length Q) where
  -- of each chamber the nearest pump house, and of these the nearest
  pub couple : Couple P Q
  couple =
      let apart : ℕ → ℕ → ℤ = λ j i. size (spot_at Q j) (spot_at P i) in
      let own : (j : ℕ) → Least (apart j) (length P) = λ j. some (apart j) (length P) some-p in
      let best : Least (λ j. apart j (own j).at) (length Q) = some (λ j. apart j (own j).at) (length Q) some-q in
      let j = best.at in
      let i = (own j).at in
      record {
        at_q = j;
        at_p = i;
        nearest = record { q_in = best.here; p_in = (own j).here; least = λ k h a b. through (apart j i) (apart k (own k).at) (apart k h) (best.least k a) ((own k).least h b) };
      }
    where
      through : (x y z : ℤ) → x ≤ℤ y → y ≤ℤ z → x ≤ℤ z
      through x y z h k = omega zl

  -- "so the list is not empty"
  pub list_never_empty : 0 < length (ring_list P Q)
  unfolding ring_list_by list_by
  list_never_empty =
      let c = couple in
      let n = c.nearest in
      holds_some (pair_at P Q c.at_q c.at_p) (list_by (ring_pair P Q) (pair_at P Q) (length P) (length Q))
      (placed_rows (ring_pair P Q) (pair_at P Q) (length Q) (length P) (length Q) 0 c.at_q c.at_p (omega arith) (omega (arith, n.q_in)) n.p_in (nearest_pair P Q c.at_q c.at_p n))
    where
      holds_some : (v : Pair) (l : List Pair) → Memᴰ v l → 0 < length l
      holds_some v [] m = absurd (Memᴰ.not-nil m)
      holds_some v (x ∷ l) m = omega arith
