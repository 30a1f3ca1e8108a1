-- The numbers of pairs that the code finds are those of the list: of a chamber its row, of a pump house its column, which is its row where the sheets change places.
--     turned           the ring rule makes no difference between the two ends of a pair
--     busiest_ranks, pumps_ranks      the k busiest, of the list, and as the code has them
-- Assumes nothing.
use mathlib.Core.Path.{◌≡◌, refl, sym, ap, ap₂, ◌∙◌}
use mathlib.Core.Bool.{Bool, true, false, cond, not, ◌&&◌}
use mathlib.Core.Logic.{⊎_elim}
use mathlib.Core.List.{List, [], ◌∷◌, ◌++◌}
use Prim.Native.Nat.{ℕ, zero, suc, ◌+◌, ◌*◌, ◌≤◌, ◌<◌}
use native.Mathlib.Omega.{arith}
use native.Mathlib.Nat.{eq-or-lt_of_le, le_antisymm}
use lib.Dec.{eqb, leb}
use lib.IntN.{ℤ, pos, nat_abs, ◌+ℤ◌, ◌-ℤ◌, ◌*ℤ◌}
use lib.ListN.{length, length-append}
use borrow.Author.Tests.{eq-eqb, ne_eqb}
use Rattle.integers.proofs.Bools.{decide}
use Rattle.integers.proofs.Order.{diff, abs_n, abs_of}
use Rattle.integers.proofs.Solver.{◌:+◌, ◌:-◌, ◌:*◌}
use Rattle.integers.proofs.Solve.{◌:=◌, solve₃, solve₄}
use Rattle.words.specs.All.{all_b}
use Rattle.plane.specs.declared.Spot.{Spot}
use Rattle.plane.specs.Rule.{same_spot}
use Rattle.plane.specs.Point.{Point, id_at, spot_at}
use Rattle.plane.specs.Profile.{Measure, profile_of, across, centre, blocks_by}
use Rattle.plane.proofs.MeasureLaws.{squares, circle_blocks}
use Rattle.sheet.specs.Open.{Opens}
use Rattle.sheet.specs.Places.{points_of}
use Rattle.list.specs.declared.Pair.{Pair}
use Rattle.list.specs.declared.Terms.{Terms}
use Rattle.list.specs.Pairs.{chamber_pairs}
use Rattle.list.specs.Rows.{row, rows, at_least, list_by, Rising, Named}
use Rattle.list.specs.Contractor.{mine}
use Rattle.list.specs.RingList.{unblocked, ring_pair_by, pair_by}
use Rattle.list.specs.Terms.{with_by, of_contractor, profile_for, pair_for}
use Rattle.list.proofs.RowLaws.{rises_far, named, row_same}
use Rattle.list.proofs.ThresholdLaws.{least_none, row_listed}
use Rattle.join.proofs.Meaning.{points_rise}
use Rattle.chamber.specs.Sized.{small_for, listed_to, list_to}
use Rattle.chamber.proofs.KeepLaws.{row_nil, row_yes, row_no}
use Rattle.chamber.proofs.ListedLaws.{points_many}
use Rattle.ranked.specs.declared.Question.{Question}
use Rattle.sorting.specs.Ranking.{first_by}
use Rattle.ranked.specs.Busiest.{busier, ranks_from, pump_pairs, chamber_rank, pump_rank, chamber_ranks, pump_ranks, asked_terms, asked_list, busiest_of, busiest_pumps}
use Rattle.ranked.specs.Ranks.{row_rank}
use Rattle.ranked.proofs.RanksLaws.{ranks_same}

-- ---- the list, chamber by chamber

-- with no threshold, a pair is listed if it is the contractor's and the rule makes it
module _ (big : ℕ) (a : Terms) (all : a.threshold ≡ 0) (o : List ℕ) (P Q : List Point) where
  listed_is : (j i : ℕ) → listed_to big a o P Q j i ≡ (mine a.contractor o j && small_for big a P Q j i)
  unfolding listed_to
  listed_is j i =
      ap (λ (t : ℕ). mine a.contractor o j && at_least (small_for big a P Q) (pair_by (profile_for a) P Q) t (length P) j i) all
      ∙ ap (λ (rule : ℕ → ℕ → Bool). mine a.contractor o j && rule j i) (least_none (small_for big a P Q) (pair_by (profile_for a) P Q) (length P))

  pub listed_mine : (j : ℕ) → mine a.contractor o j ≡ true → (i : ℕ) → listed_to big a o P Q j i ≡ small_for big a P Q j i
  listed_mine j m i = listed_is j i ∙ ap (λ (b : Bool). b && small_for big a P Q j i) m

  pub listed_not : (j : ℕ) → mine a.contractor o j ≡ false → (i : ℕ) → listed_to big a o P Q j i ≡ false
  listed_not j m i = listed_is j i ∙ ap (λ (b : Bool). b && small_for big a P Q j i) m

module _ (big c : ℕ) (g : Bool) (o : List ℕ) (P Q : List Point) where
  abbrev terms : Terms
  terms = of_contractor c (with_by g 0)

  -- a chamber of the contractor's has its row in the list
  pub chamber_row : Rising (id_at P) (length P) → Rising (id_at Q) (length Q) → (j : ℕ) → j < length Q → mine c o j ≡ true → chamber_rank (list_to big terms o P Q) (id_at Q j) ≡ row_rank big terms P Q j
  unfolding list_to
  chamber_row rp rq j h m =
      let same : length (chamber_pairs (id_at Q j) (list_by (listed_to big terms o P Q) (pair_by (profile_for terms) P Q) (length P) (length Q))) ≡ (row_rank big terms P Q j).pairs =
      sym (row_listed (profile_for terms) (listed_to big terms o P Q) P Q rp rq j h)
      ∙ ap length (row_same (listed_to big terms o P Q) (small_for big terms P Q) (pair_by (profile_for terms) P Q) j (length P) 0 (λ x u v. listed_mine big terms refl o P Q j m x)) in
      λ s. record { id = id_at Q j; pairs = same s }

-- ---- the pairs of one pump house, in the list of any rule

pump_append : (id : ℕ) (l m : List Pair) → pump_pairs id (l ++ m) ≡ pump_pairs id l ++ pump_pairs id m
unfolding pump_pairs
pump_append id [] m = refl
pump_append id (v ∷ l) m = go (eqb v.p id) (pump_append id l m)
  where
    go : (t : Bool) → pump_pairs id (l ++ m) ≡ pump_pairs id l ++ pump_pairs id m
        → cond t (v ∷ pump_pairs id (l ++ m)) (pump_pairs id (l ++ m)) ≡ cond t (v ∷ pump_pairs id l) (pump_pairs id l) ++ pump_pairs id m
    go true e = ap (λ (x : List Pair). v ∷ x) e
    go false e = e

pump_here : (id : ℕ) (v : Pair) (l : List Pair) → v.p ≡ id → pump_pairs id (v ∷ l) ≡ v ∷ pump_pairs id l
unfolding pump_pairs
pump_here id v l e = rw (eq-eqb v.p id e)

pump_else : (id : ℕ) (v : Pair) (l : List Pair) → (v.p ≡ id → ⊥) → pump_pairs id (v ∷ l) ≡ pump_pairs id l
unfolding pump_pairs
pump_else id v l e = rw (ne_eqb v.p id e)

pump_nil : (id : ℕ) → pump_pairs id [] ≡ []
unfolding pump_pairs
pump_nil id = refl

abbrev once : Bool → ℕ
once true = 1
once false = 0

module _ (rule : ℕ → ℕ → Bool) (pair : ℕ → ℕ → Pair) (qid pid : ℕ → ℕ) (nm : Named pair qid pid) (np : ℕ) (rp : Rising pid np) (i : ℕ) (in_p : i < np) where
  -- past its position a row has none of it
  row_past : (j k u : ℕ) → i < u → u + k ≤ np → length (pump_pairs (pid i) (row rule pair j k u)) ≡ 0
  row_past j zero u l h = ap (λ (t : List Pair). length (pump_pairs (pid i) t)) (row_nil rule pair j u) ∙ ap length (pump_nil (pid i))
  row_past j (suc k) u l h =
      let other : (pair j u).p ≡ pid i → ⊥ = λ e. let z = rises_far pid np rp i u l (omega arith) in omega (arith, nm.p_is j u) in
      ⊎_elim
      (λ (e : rule j u ≡ true). ap (λ (t : List Pair). length (pump_pairs (pid i) t)) (row_yes rule pair j k u e) ∙ ap length (pump_else (pid i) (pair j u) (row rule pair j k (u + 1)) other) ∙ row_past j k (u + 1) (omega arith) (omega arith))
      (λ (e : rule j u ≡ false). ap (λ (t : List Pair). length (pump_pairs (pid i) t)) (row_no rule pair j k u e) ∙ row_past j k (u + 1) (omega arith) (omega arith))
      (decide (rule j u))

  -- a row has one pair of it, where the rule makes it
  row_once : (j k u : ℕ) → u ≤ i → i < u + k → u + k ≤ np → length (pump_pairs (pid i) (row rule pair j k u)) ≡ once (rule j i)
  row_once j zero u l g h = absurd (omega arith)
  row_once j (suc k) u l g h =
      ⊎_elim
      (λ (s : u ≡ i).
      ⊎_elim
      (λ (e : rule j i ≡ true).
      ap (λ (t : List Pair). length (pump_pairs (pid i) t)) (ap (row rule pair j (suc k)) s ∙ row_yes rule pair j k i e)
      ∙ ap length (pump_here (pid i) (pair j i) (row rule pair j k (i + 1)) (nm.p_is j i))
      ∙ ap suc (row_past j k (i + 1) (omega arith) (omega arith))
      ∙ ap once (sym e))
      (λ (e : rule j i ≡ false).
      ap (λ (t : List Pair). length (pump_pairs (pid i) t)) (ap (row rule pair j (suc k)) s ∙ row_no rule pair j k i e)
      ∙ row_past j k (i + 1) (omega arith) (omega arith)
      ∙ ap once (sym e))
      (decide (rule j i)))
      (λ (s : u < i).
      let other : (pair j u).p ≡ pid i → ⊥ = λ e. let z = rises_far pid np rp u i s in_p in omega (arith, nm.p_is j u) in
      ⊎_elim
      (λ (e : rule j u ≡ true). ap (λ (t : List Pair). length (pump_pairs (pid i) t)) (row_yes rule pair j k u e) ∙ ap length (pump_else (pid i) (pair j u) (row rule pair j k (u + 1)) other) ∙ row_once j k (u + 1) (omega arith) (omega arith) (omega arith))
      (λ (e : rule j u ≡ false). ap (λ (t : List Pair). length (pump_pairs (pid i) t)) (row_no rule pair j k u e) ∙ row_once j k (u + 1) (omega arith) (omega arith) (omega arith))
      (decide (rule j u)))
      (eq-or-lt_of_le {n = u} {m = i} l)

  -- so its pairs are as many as the chambers that the rule takes with it
  column : (other : ℕ → ℕ → Bool) (pair' : ℕ → ℕ → Pair) (k j : ℕ) → ((y : ℕ) → j ≤ y → y < j + k → rule y i ≡ other i y) → length (pump_pairs (pid i) (rows rule pair np k j)) ≡ length (row other pair' i k j)
  unfolding rows
  column other pair' zero j f = ap length (pump_nil (pid i)) ∙ sym (ap length (row_nil other pair' i j))
  column other pair' (suc k) j f =
      ap length (pump_append (pid i) (row rule pair j np 0) (rows rule pair np k (j + 1)))
      ∙ length-append (pump_pairs (pid i) (row rule pair j np 0)) (pump_pairs (pid i) (rows rule pair np k (j + 1)))
      ∙ ap₂ (λ (x y : ℕ). x + y) (row_once j np 0 (omega arith) (omega arith) (omega arith) ∙ ap once (f j (omega arith) (omega arith))) (column other pair' k (j + 1) (λ y a b. f y (omega arith) (omega arith)))
      ∙ ⊎_elim
      (λ (e : other i j ≡ true). ap (λ (b : Bool). once b + length (row other pair' i k (j + 1))) e ∙ sum (length (row other pair' i k (j + 1))) ∙ sym (ap length (row_yes other pair' i k j e)))
      (λ (e : other i j ≡ false). ap (λ (b : Bool). once b + length (row other pair' i k (j + 1))) e ∙ none (length (row other pair' i k (j + 1))) ∙ sym (ap length (row_no other pair' i k j e)))
      (decide (other i j))
    where
      sum : (n : ℕ) → 1 + n ≡ suc n
      sum n = omega arith

      none : (n : ℕ) → 0 + n ≡ n
      none n = omega arith

-- ---- the rule makes no difference between the ends

half : (x y : ℤ) → nat_abs (x -ℤ y) ≤ nat_abs (y -ℤ x)
half x y = abs_of (x -ℤ y) (nat_abs (y -ℤ x)) (omega (arith, diff x y, diff y x, abs_n (y -ℤ x))) (omega (arith, diff x y, diff y x, abs_n (y -ℤ x)))

gap : (x y : ℤ) → nat_abs (x -ℤ y) ≡ nat_abs (y -ℤ x)
gap x y = le_antisymm (half x y) (half y x)

and_turned : (x y : Bool) → (x && y) ≡ (y && x)
and_turned true true = refl
and_turned true false = refl
and_turned false true = refl
and_turned false false = refl

last_turned : (x y z : Bool) → (x && y && z) ≡ (x && z && y)
last_turned true y z = and_turned y z
last_turned false y z = refl

measure_turned : (m : Measure) (a b z : Spot) → blocks_by m a b z ≡ blocks_by m b a z
unfolding blocks_by
measure_turned m a b z =
    let turn : (c x y : ℤ) → c -ℤ (x +ℤ y) ≡ c -ℤ (y +ℤ x) = λ c x y. solve₃ (λ c x y. c :- (x :+ y) := c :- (y :+ x)) refl c x y in
    let near : centre m a b z ≡ centre m b a z = ap₂ m.joined (ap nat_abs (turn (pos 2 *ℤ z.x) a.x b.x)) (ap nat_abs (turn (pos 2 *ℤ z.y) a.y b.y)) in
    let far : across m a b ≡ across m b a = ap₂ m.joined (gap a.x b.x) (gap a.y b.y) in
    ap₂ (λ (u v : ℕ). leb u v && not (same_spot z a) && not (same_spot z b)) near far
    ∙ last_turned (leb (centre m b a z) (across m b a)) (not (same_spot z a)) (not (same_spot z b))

blocks_turned : (g : Bool) (a b z : Spot) → (profile_of g).blocks a b z ≡ (profile_of g).blocks b a z
blocks_turned false a b z = sym (circle_blocks a b z) ∙ measure_turned squares a b z ∙ circle_blocks b a z
blocks_turned true a b z = measure_turned _ a b z

size_turned : (g : Bool) (a b : Spot) → (profile_of g).size a b ≡ (profile_of g).size b a
size_turned false a b = ap nat_abs (solve₄ (λ x u y v. (x :- u) :* (x :- u) :+ (y :- v) :* (y :- v) := (u :- x) :* (u :- x) :+ (v :- y) :* (v :- y)) refl a.x b.x a.y b.y)
size_turned true a b = ap (λ (n : ℕ). n * n) (ap₂ (λ (u v : ℕ). u + v) (gap a.x b.x) (gap a.y b.y))

unblocked_turned : (g : Bool) (s : List Point) (a b : Spot) → unblocked (profile_of g) s a b ≡ unblocked (profile_of g) s b a
unfolding unblocked
unblocked_turned g s a b = λ t. all_b (length s) (λ (k : ℕ). not (blocks_turned g a b (spot_at s k) t))

-- "(q, p) is a ring pair" where (p, q) is one of the sheets changed about
pub turned : (g : Bool) (P Q : List Point) (j i : ℕ) → ring_pair_by (profile_of g) P Q j i ≡ ring_pair_by (profile_of g) Q P i j
unfolding ring_pair_by
turned g P Q j i =
    ap₂ (λ (x y : Bool). x && y) (unblocked_turned g Q (spot_at Q j) (spot_at P i)) (unblocked_turned g P (spot_at Q j) (spot_at P i))
    ∙ and_turned (unblocked (profile_of g) Q (spot_at P i) (spot_at Q j)) (unblocked (profile_of g) P (spot_at P i) (spot_at Q j))

small_turned : (big : ℕ) (g : Bool) (P Q : List Point) (j i : ℕ) → small_for big (with_by g 0) P Q j i ≡ small_for big (with_by g 0) Q P i j
unfolding small_for pair_for
small_turned big g P Q j i = ap₂ (λ (x : Bool) (n : ℕ). x && leb n big) (turned g P Q j i) (size_turned g (spot_at Q j) (spot_at P i))

-- a pump house has its column in the list
pump_column : (big : ℕ) (g : Bool) (P Q : List Point) → Rising (id_at P) (length P) → (i : ℕ) → i < length P → pump_rank (list_to big (with_by g 0) [] P Q) (id_at P i) ≡ row_rank big (with_by g 0) Q P i
unfolding list_to list_by
pump_column big g P Q rp i h =
    let same =
    column (listed_to big (with_by g 0) [] P Q) (pair_by (profile_of g) P Q) (id_at Q) (id_at P) (named (profile_of g) P Q) (length P) rp i h
    (small_for big (with_by g 0) Q P) (pair_by (profile_of g) Q P) (length Q) 0 (λ y a b. listed_mine big (with_by g 0) refl [] P Q y refl i ∙ small_turned big g P Q y i) in
    λ s. record { id = id_at P i; pairs = same s }

-- ---- the k busiest

module _ (P Q : List ℤ) (np mp nq mq : ℕ) (op : Opens P np mp) (oq : Opens Q nq mq) where
  pub busiest_ranks : (o : List ℕ) (a : Question) → first_by busier a.k (ranks_from (mine a.contractor o) (row_rank a.largest (asked_terms a) (points_of P) (points_of Q)) nq 0) ≡ busiest_of P Q o a
  unfolding busiest_of chamber_ranks asked_list
  busiest_ranks o a =
      let p = points_of P in
      let q = points_of Q in
      let many : nq ≡ length q = sym (points_many Q nq mq oq) in
      ap (first_by busier a.k)
      (ap (λ (n : ℕ). ranks_from (mine a.contractor o) (row_rank a.largest (asked_terms a) p q) n 0) many
      ∙ ranks_same (mine a.contractor o) (row_rank a.largest (asked_terms a) p q) (λ j. chamber_rank (list_to a.largest (asked_terms a) o p q) (id_at q j)) (length q) 0
      (λ x u v m. sym (chamber_row a.largest a.contractor a.grid o p q (points_rise op) (points_rise oq) x (omega arith) m)))

  pub pumps_ranks : (k big : ℕ) (g : Bool) → first_by busier k (ranks_from (mine 2 []) (row_rank big (with_by g 0) (points_of Q) (points_of P)) np 0) ≡ busiest_pumps P Q k big g
  unfolding busiest_pumps pump_ranks
  pumps_ranks k big g =
      let p = points_of P in
      let q = points_of Q in
      let many : np ≡ length p = sym (points_many P np mp op) in
      ap (first_by busier k)
      (ap (λ (n : ℕ). ranks_from (mine 2 []) (row_rank big (with_by g 0) q p) n 0) many
      ∙ ranks_same (mine 2 []) (row_rank big (with_by g 0) q p) (λ i. pump_rank (list_to big (with_by g 0) [] p q) (id_at p i)) (length p) 0
      (λ x u v m. sym (pump_column big g p q (points_rise op) x (omega arith))))
