-- The order in which the walk comes to the points: by squared distance, on a tie by position, each point once.
-- Assumes nothing.
use mathlib.Core.Path.{◌≡◌, refl, sym, ap, subst, ◌∙◌}
use mathlib.Core.Bool.{Bool, true, false, cond, true≢false}
use mathlib.Core.Logic.{inl, inr, ⊎_elim}
use mathlib.Core.List.{List, [], ◌∷◌, ◌++◌}
use Prim.Native.Nat.{ℕ, zero, suc, ◌+◌, ◌-◌, ◌*◌, ◌<◌, ◌≤◌}
use native.Mathlib.Omega.{arith}
use native.Mathlib.Nat.{eq-or-lt_of_le, mul-le-mul}
use lib.Dec.{eqb, ltb}
use lib.IntN.{ℤ, pos, negsuc, nat_abs, ◌+ℤ◌, ◌-ℤ◌}
use lib.ListN.{length, get_or, length-append, get_or-append}
use lib.Seq.{get_or_at}
use lib.Signed.{lt_z, ◌≤ℤ◌}
use borrow.Author.Tests.{eqb-true, eq-eqb, ltb-true, ltb-false}
use Rattle.integers.proofs.Order.{zl, diff, abs_n, abs_of, abs_mul}
use Rattle.integers.proofs.Sign.{sq-≥0}
use Rattle.integers.proofs.Bools.{decide}
use Rattle.words.specs.Word.{num}
use Rattle.plane.specs.declared.Spot.{Spot}
use Rattle.plane.specs.declared.Boxed.{Boxed}
use Rattle.plane.specs.Rule.{sq, out, size}
use Rattle.plane.proofs.Plane.{In}
use Rattle.sheet.specs.Layout.{points, nodes}
use Rattle.sheet.specs.Order.{order_of, rank_of}
use Rattle.sheet.specs.Nodes.{level_of}
use Rattle.sheet.specs.Boxes.{Below, sum_over}
use Rattle.sheet.specs.Places.{spot_of, box_of}
use Rattle.sheet.specs.Open.{Opens}
use Rattle.sheet.proofs.PlaceLaws.{in_box_lem}
use Rattle.sheet.proofs.OrderLaws.{order_below, rank_below, order_rank, rank_order}
use Rattle.outward.specs.Waiting.{box_entry, point_entry, node_of, entry_position, away, distance, covered, with_covered}
use Rattle.outward.specs.NearWalk.{root_waits, near_order}
use Rattle.outward.specs.Claims.{distance_to, NotAfter, times}
use Rattle.outward.specs.Room.{Each, none}
use Rattle.outward.proofs.MassLaws.{at_place}
use Rattle.outward.proofs.ListLaws.{each_head, each_tail, each_map, total, Leads, Sorted, sorted_none, sorted_more, sorted_head, sorted_tail, insert_sorted, run_keeps}
use Rattle.outward.proofs.EntryLaws.{is_box_lem, is_point, node_of_lem, position_of, weigh, weigh_point, Under, itself, below, under_covered}
use Rattle.outward.proofs.NearLaws.{covers_total, covers_each, sum_ones, sum_zero, root_total, all_keep}

-- ---- distances

-- a square as a number
square : (z : ℤ) → sq z ≡ pos (nat_abs z * nat_abs z)
square z = own (sq z) (sq-≥0 z) ∙ ap pos (abs_mul z z)
  where
    own : (a : ℤ) → pos 0 ≤ℤ a → a ≡ pos (nat_abs a)
    own (pos a) h = refl
    own (negsuc a) h = absurd h.le

-- how far c is outside is no more than how far it is from a place within
out_abs : (lo hi c t : ℤ) → lo ≤ℤ t → t ≤ℤ hi → nat_abs (out lo hi c) ≤ nat_abs (c -ℤ t)
out_abs lo hi c t l u = go (lt_z c lo) (lt_z hi c) refl refl
  where
    go : (a b : Bool) → lt_z c lo ≡ a → lt_z hi c ≡ b → nat_abs (cond a (lo -ℤ c) (cond b (c -ℤ hi) (pos 0))) ≤ nat_abs (c -ℤ t)
    go true b e f = abs_of (lo -ℤ c) (nat_abs (c -ℤ t)) (omega (zl, diff lo c, diff c t, abs_n (c -ℤ t))) (omega (zl, diff lo c, diff c t, abs_n (c -ℤ t)))
    go false true e f = abs_of (c -ℤ hi) (nat_abs (c -ℤ t)) (omega (zl, diff c hi, diff c t, abs_n (c -ℤ t))) (omega (zl, diff c hi, diff c t, abs_n (c -ℤ t)))
    go false false e f = omega arith

-- a place in a box is not nearer than the box
away_le : (q : Spot) (o : Boxed) (z : Spot) → In o z → num (away q o) ≤ num (size q z)
unfolding num
away_le q o z i =
    let x = out_abs o.xmin o.xmax q.x z.x i.left i.right in
    let y = out_abs o.ymin o.ymax q.y z.y i.low i.high in
    let a : num (away q o) ≡ nat_abs (out o.xmin o.xmax q.x) * nat_abs (out o.xmin o.xmax q.x) + nat_abs (out o.ymin o.ymax q.y) * nat_abs (out o.ymin o.ymax q.y) =
    ap (λ (v : ℤ). num (v +ℤ sq (out o.ymin o.ymax q.y))) (square (out o.xmin o.xmax q.x)) ∙ ap (λ (v : ℤ). num (pos (nat_abs (out o.xmin o.xmax q.x) * nat_abs (out o.xmin o.xmax q.x)) +ℤ v)) (square (out o.ymin o.ymax q.y))
    in
    let b : num (size q z) ≡ nat_abs (q.x -ℤ z.x) * nat_abs (q.x -ℤ z.x) + nat_abs (q.y -ℤ z.y) * nat_abs (q.y -ℤ z.y) =
    ap (λ (v : ℤ). num (v +ℤ sq (q.y -ℤ z.y))) (square (q.x -ℤ z.x)) ∙ ap (λ (v : ℤ). num (pos (nat_abs (q.x -ℤ z.x) * nat_abs (q.x -ℤ z.x)) +ℤ v)) (square (q.y -ℤ z.y))
    in
    omega (arith, a, b, mul-le-mul x x, mul-le-mul y y)

module _ (w : List ℤ) (n m : ℕ) (q : Spot) where
  pub distance_box : (j : ℕ) → j < m → distance w n m q (box_entry j) ≡ num (away q (box_of w n j))
  unfolding distance
  distance_box j h =
      ap (λ (t : Bool). num (cond t (away q (box_of w n (node_of (box_entry j)))) (size q (spot_of w (entry_position m (box_entry j)))))) (is_box_lem m j h)
      ∙ ap (λ (i : ℕ). num (away q (box_of w n i))) (node_of_lem j)

  pub distance_point : (i : ℕ) → distance w n m q (point_entry m i) ≡ distance_to w q i
  unfolding distance distance_to
  distance_point i =
      ap (λ (t : Bool). num (cond t (away q (box_of w n (node_of (point_entry m i)))) (size q (spot_of w (entry_position m (point_entry m i)))))) (is_point m i)
      ∙ ap (λ (k : ℕ). num (size q (spot_of w k))) (position_of m i)

  module _ (o : Opens w n m) where
    -- what stands below a box is not nearer than the box
    under_far : (j k : ℕ) → j < m → Below w n (level_of w n j) j k → distance w n m q (box_entry j) ≤ distance w n m q (point_entry m (order_of w n k))
    unfolding distance_to
    under_far j k h b =
        let x = distance_box j h in
        let y = distance_point (order_of w n k) in
        let z = (away_le q (box_of w n j) (spot_of w (order_of w n k)) (in_box_lem w n m o.table o.tight (level_of w n j) j h refl k b)) in
        omega arith

    -- A point that is not after e is not after any point below e: a box that comes after a point is farther than it, since on a tie boxes come first.
    leads_under : (i e x : ℕ) → Leads w n m q (point_entry m i) e → Under w n m e x → Leads w n m q (point_entry m i) (point_entry m x)
    leads_under i e x h (itself z) = subst (Leads w n m q (point_entry m i)) z h
    leads_under i e x h (below j b z k u p) =
        let f = under_far j k b u in
        let y : distance w n m q e ≡ distance w n m q (box_entry j) = ap (distance w n m q) z in
        let v : distance w n m q (point_entry m (order_of w n k)) ≡ distance w n m q (point_entry m x) = ap (λ (a : ℕ). distance w n m q (point_entry m a)) p in
        record {
          by =
              ⊎_elim
              (λ (c : distance w n m q (point_entry m i) < distance w n m q e). inl (omega arith))
              (λ (c : (distance w n m q (point_entry m i) ≡ distance w n m q e) × (point_entry m i ≤ e)). absurd (omega (arith, c.1)))
              h.by;
        }

-- ---- how often

-- 1 at i, and 0 elsewhere
pub one : ℕ → ℕ → ℕ
one i x = cond (eqb x i) 1 0

times_more : (i x : ℕ) (s : List ℕ) → times i (s ++ (x ∷ [])) ≡ times i s + one i x
unfolding times one
times_more i x [] = omega arith
times_more i x (y ∷ s) = omega (arith, times_more i x s)

one_same : (i x : ℕ) → x ≡ i → one i x ≡ 1
unfolding one
one_same i x e = rw (eq-eqb x i e)

one_other : (i x : ℕ) → (x ≡ i → ⊥) → one i x ≡ 0
unfolding one
one_other i x h = go (eqb x i) refl
  where
    go : (t : Bool) → eqb x i ≡ t → ◌≡◌ {A = ℕ} (cond t 1 0) 0
    go true e = absurd (h (eqb-true x i e))
    go false e = refl

module _ (w : List ℤ) (n m : ℕ) (o : Opens w n m) (i : ℕ) where
  -- no place has i, as long as none is the place of i
  place_none : (c : ℕ) → c ≤ n → ((k : ℕ) → k < c → order_of w n k ≡ i → ⊥) → sum_over (at_place w n (one i)) 0 c ≡ 0
  unfolding sum_over at_place
  place_none zero h off = refl
  place_none (suc c) h off = omega (arith, place_none c (omega arith) (λ k b. off k (omega arith)), one_other i (order_of w n (0 + c)) (off (0 + c) (omega arith)))

  -- each position stands at one place
  place_one : i < n → (c : ℕ) → c ≤ n → rank_of w n i < c → sum_over (at_place w n (one i)) 0 c ≡ 1
  unfolding sum_over at_place
  place_one b zero h r = absurd (omega arith)
  place_one b (suc c) h r =
      ⊎_elim
      (λ (e : rank_of w n i ≡ c).
      let x = place_none c (omega arith) (λ k u z. let y = sym (ap (rank_of w n) z) ∙ rank_order w n o.ordered k (omega arith) in omega arith) in
      let y = one_same i (order_of w n (0 + c)) (ap (order_of w n) (let z : 0 + c ≡ rank_of w n i = omega arith in z) ∙ order_rank w n o.ordered i b) in
      omega arith)
      (λ (e : rank_of w n i < c).
      let x = place_one b c (omega arith) e in
      let y = one_other i (order_of w n (0 + c)) (λ z. let v = sym (ap (rank_of w n) z) ∙ rank_order w n o.ordered (0 + c) (omega arith) in omega arith) in
      omega arith)
      (eq-or-lt_of_le (let z : rank_of w n i ≤ c = omega arith in z))

-- ---- the walk

-- with l waiting, s is what has been given: sorted both, nothing below what waits comes before what is given, and nothing is lost or doubled
pub record Lined (w : List ℤ) (n m : ℕ) (q : Spot) (l s : List ℕ) : Type 0 where
  pub sorted : Sorted (Leads w n m q) l
  pub ascends : (a b : ℕ) → a ≤ b → b < length s → Leads w n m q (point_entry m (get_or s a 0)) (point_entry m (get_or s b 0))
  pub low : (a : ℕ) → a < length s → Each (λ e. (x : ℕ) → Under w n m e x → Leads w n m q (point_entry m (get_or s a 0)) (point_entry m x)) l
  pub once : (i : ℕ) → times i s + total (weigh w n m (one i) (λ j. 0)) l ≡ sum_over (at_place w n (one i)) 0 n
  pub long : length s + total (weigh w n m (λ i. 1) (λ j. 0)) l ≡ sum_over (at_place w n (λ i. 1)) 0 n

module _ (w : List ℤ) (n m : ℕ) (q : Spot) (o : Opens w n m) where
  open_lined : (j : ℕ) → j < m → (l s : List ℕ) → Lined w n m q (box_entry j ∷ l) s → Lined w n m q (with_covered w n m q j l) s
  unfolding with_covered
  open_lined j h l s x =
      record {
        sorted = run_keeps w n m q (covered w n m j) (Sorted (Leads w n m q)) _ _ (λ k a u l' y. insert_sorted w n m q (covered w n m j k) l' y) l (sorted_tail x.sorted);
        ascends = x.ascends;
        low = λ a u. covers_each w n m o q j h (λ k r y z. each_head (x.low a u) y (under_covered w n m o j k h r y z)) l (each_tail (x.low a u));
        once = λ i. omega (arith, covers_total w n m o q j h (one i) (λ k. 0) l, x.once i);
        long = omega (arith, covers_total w n m o q j h (λ i. 1) (λ k. 0) l, x.long);
      }

  meet_lined : (i : ℕ) → i < n → (l s : List ℕ) → Lined w n m q (point_entry m i ∷ l) s → Lined w n m q l (s ++ (i ∷ []))
  unfolding total
  meet_lined i h l s x =
      record {
        sorted = sorted_tail x.sorted;
        ascends = λ a b u v.
            ⊎_elim
            (λ (e : b ≡ length s).
            ⊎_elim
            (λ (f : a ≡ length s). rw (f, e, at_end) (record { by = inr (refl, omega arith) }))
            (λ (f : a < length s). rw (e, at_end, get_or-append s (i ∷ []) 0 a f) (each_head (x.low a f) i (itself refl)))
            (eq-or-lt_of_le (let z : a ≤ length s = omega arith in z)))
            (λ (e : b < length s). rw (get_or-append s (i ∷ []) 0 b e, get_or-append s (i ∷ []) 0 a (omega arith)) (x.ascends a b u e))
            (eq-or-lt_of_le (let z : b ≤ length s = omega (arith, length-append s (i ∷ [])) in z));
        low = λ a u.
            ⊎_elim
            (λ (e : a ≡ length s). rw (e, at_end) (each_map (λ f y z p. leads_under w n m q o i f z y p) (sorted_head x.sorted)))
            (λ (e : a < length s). rw (get_or-append s (i ∷ []) 0 a e) (each_tail (x.low a e)))
            (eq-or-lt_of_le (let z : a ≤ length s = omega (arith, length-append s (i ∷ [])) in z));
        once = λ k. omega (arith, times_more k i s, x.once k, weigh_point w n m (one k) (λ j. 0) i);
        long = omega (arith, length-append s (i ∷ []), x.long, weigh_point w n m (λ k. 1) (λ j. 0) i);
      }
    where
      at_end : get_or (s ++ (i ∷ [])) (length s) 0 ≡ i
      at_end = get_or_at s i [] 0 (length s) refl

  root_lined : Lined w n m q (root_waits m) []
  unfolding root_waits times
  root_lined =
      record {
        sorted = go (eqb m 0);
        ascends = λ a b u v. absurd (omega arith);
        low = λ a u. absurd (omega arith);
        once = λ i. omega (arith, root_total w n m o (one i) (λ j. 0), sum_zero m);
        long = omega (arith, root_total w n m o (λ i. 1) (λ j. 0), sum_zero m);
      }
    where
      go : (t : Bool) → Sorted (Leads w n m q) (cond t [] (box_entry (m - 1) ∷ []))
      go true = sorted_none
      go false = sorted_more none sorted_none

-- what stands in a list is there at least once
times_at : (s : List ℕ) (a : ℕ) → a < length s → 1 ≤ times (get_or s a 0) s
unfolding times
times_at [] a h = absurd (omega arith)
times_at (x ∷ s) zero h = rw (eq-eqb x x refl) (omega arith)
times_at (x ∷ s) (suc a) h = let y = times_at s a (omega arith) in omega arith

-- ---- the sheet

module _ (w : List ℤ) (q : Spot) (o : Opens w (points w) (nodes w)) where
  whole : Lined w (points w) (nodes w) q [] (near_order w q)
  unfolding near_order
  whole =
      all_keep w (points w) (nodes w) q (λ j s. false) (λ s. s) (λ i s. s ++ (i ∷ [])) o (Lined w (points w) (nodes w) q)
      (λ j h l s a t x. absurd (true≢false (sym t)))
      (λ j h l s a t x. open_lined w (points w) (nodes w) q o j h l s x)
      (λ i h l s a x. meet_lined w (points w) (nodes w) q o i h l s x)
      [] (root_lined w (points w) (nodes w) q o)

  -- what is given is sorted: by squared distance, on a tie by position
  pub order_ascends : (a b : ℕ) → a ≤ b → b < length (near_order w q) → NotAfter w q (get_or (near_order w q) a 0) (get_or (near_order w q) b 0)
  order_ascends a b h u =
      let i = get_or (near_order w q) a 0 in
      let k = get_or (near_order w q) b 0 in
      let x = distance_point w (points w) (nodes w) q i in
      let y = distance_point w (points w) (nodes w) q k in
      ⊎_elim (λ z. inl (omega arith)) (λ z. inr (omega (arith, z.0), omega (arith, z.1))) (whole.ascends a b h u).by

  -- each point once
  pub order_once : (i : ℕ) → i < points w → times i (near_order w q) ≡ 1
  unfolding total
  order_once i h = omega (arith, whole.once i, place_one w (points w) (nodes w) o i h (points w) (omega arith) (rank_below w (points w) o.ordered i h))

  -- and nothing else
  pub order_only : (i : ℕ) → points w ≤ i → times i (near_order w q) ≡ 0
  unfolding total
  order_only i h = omega (arith, whole.once i, place_none w (points w) (nodes w) o i (points w) (omega arith) (λ k u z. omega (arith, order_below w (points w) o.ordered k u)))

  pub order_length : length (near_order w q) ≡ points w
  unfolding total at_place
  order_length = omega (arith, whole.long, sum_ones (at_place w (points w) (λ i. 1)) (λ k. refl) (points w))

  pub order_small : (a : ℕ) → a < length (near_order w q) → get_or (near_order w q) a 0 < points w
  order_small a h = small (near_order w q) a h order_only
    where
      small : (s : List ℕ) (a : ℕ) → a < length s → ((i : ℕ) → points w ≤ i → times i s ≡ 0) → get_or s a 0 < points w
      small s a h off =
          ⊎_elim
          (λ (t : ltb (get_or s a 0) (points w) ≡ true). ltb-true _ _ t)
          (λ (t : ltb (get_or s a 0) (points w) ≡ false). absurd (omega (arith, off (get_or s a 0) (ltb-false _ _ t), times_at s a h)))
          (decide (ltb (get_or s a 0) (points w)))
