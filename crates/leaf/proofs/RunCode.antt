-- The code of a leaf run: the loop over the kept bits of all sets, what it leaves, and the pairs of the bits that are left.
-- Assumes nothing.
use mathlib.Core.Path.{◌≡◌, refl, sym, ap, subst, ◌∙◌}
use mathlib.Core.Bool.{Bool, true, false, cond, ◌&&◌}
use mathlib.Core.Logic.{⊎_elim}
use mathlib.Core.List.{List, [], ◌∷◌, ◌++◌, append-nil}
use Prim.Native.Nat.{ℕ, zero, suc, ◌+◌, ◌-◌, ◌*◌, ◌/◌, ◌%◌, ◌<◌, ◌≤◌}
use native.Mathlib.Omega.{arith}
use native.Mathlib.Nat.{mul-le-mul, le_refl, lt_of_not-le, pos_of_ne-zero, mod-lt, div-add-mod, mul-add-div, mul-add-mod_self_left, mod-eq_of_lt, div-eq_of_lt}
use lib.Dec.{ltb}
use lib.IntN.{ℤ}
use lib.ListN.{length}
use borrow.Author.Tests.{ltb-true, ltb-false, lt-ltb}
use Rattle.plane.specs.Profile.{circle}
use Rattle.plane.proofs.ProfileLaws.{circle_lawful}
use Rattle.integers.proofs.Bools.{and_left, and_right, decide, clash}
use Rattle.bits.specs.Set.{kept, with, without, none, next_from}
use Rattle.bits.proofs.SetLaws.{with_length, kept_only, none_kept, none_length}
use Rattle.bits.proofs.NextLaws.{from_kept, from_skip}
use Rattle.words.specs.All.{all_b}
use Rattle.plane.specs.declared.Spot.{Spot}
use Rattle.plane.specs.Rule.{drops}
use Rattle.sheet.specs.Layout.{points, nodes}
use Rattle.sheet.specs.Order.{order_of}
use Rattle.sheet.specs.Nodes.{level_of, first_of, count_of}
use Rattle.sheet.specs.Boxes.{sum_over}
use Rattle.sheet.specs.Places.{spot_of, points_of}
use Rattle.sheet.specs.Open.{Opens}
use Rattle.sheet.proofs.SheetLaws.{by_counts}
use Rattle.sheet.proofs.OrderLaws.{order_below}
use Rattle.sheet.proofs.SizeLaws.{sum_join}
use Rattle.list.specs.declared.Pair.{Pair}
use Rattle.list.specs.Rows.{row, rows, list_by}
use Rattle.list.specs.RingList.{ring_pair, pair_at}
use Rattle.walk.specs.declared.Answer.{Answer}
use Rattle.walk.specs.FilterWalk.{Kept, so_far}
use Rattle.walk.specs.RingWalk.{clear, pair_walk}
use Rattle.walk.proofs.Meaning.{pair_opened}
use Rattle.walk.proofs.WalkLaws.{Steps, Does, turn_does, all_does, sum_one}
use Rattle.walk.proofs.SiftLaws.{one_if, sum_same, sum_past, stays, spends, stays_not, spends_not, Sifted, Sifts, walk_sift_start, sift_clear, sift_gone, sift_few, sift_room}
use Rattle.leaf.specs.LeafWalk.{slot, chamber_at, chamber_spot, ruled_out, weigh, leaf_take, skips, leaf_visit, leaf_kept, leaf_keeps}
use Rattle.leaf.specs.LeafRun.{leaf_list, leaf_opened, RunSet, pairs_from, left_from}
use Rattle.leaf.specs.Room.{Sets}
use Rattle.leaf.proofs.LeafLaws.{slot_fits, leaf_few, leaf_place, chamber_in, leaf_opened_lem, leaf_long, leaf_below, leaf_exact}

-- ---- sums

sum_from : (f : ℕ → ℕ) (a c : ℕ) → sum_over f a c ≡ sum_over (λ i. f (a + i)) 0 c
unfolding sum_over
sum_from f a zero = refl
sum_from f a (suc c) = let z : 0 + c ≡ c = omega arith in omega (arith, sum_from f a c, ap (λ (i : ℕ). f (a + i)) z)

-- ---- the kept sets, one behind the other

module _ (words : ℕ) where
  slot_chamber : (k i : ℕ) → i < 64 * words → slot words k i / (64 * words) ≡ k
  slot_chamber k i l =
      let e : slot words k i ≡ 64 * words * k + i = omega arith in
      let p : 0 < 64 * words = omega arith in
      ap (λ (x : ℕ). x / (64 * words)) e ∙ mul-add-div p k i ∙ omega (arith, div-eq_of_lt l)

  slot_position : (k i : ℕ) → i < 64 * words → slot words k i % (64 * words) ≡ i
  slot_position k i l =
      let e : slot words k i ≡ 64 * words * k + i = omega arith in
      ap (λ (x : ℕ). x % (64 * words)) e ∙ mul-add-mod_self_left (64 * words) k i ∙ mod-eq_of_lt l

  slot_of : (x : ℕ) → slot words (x / (64 * words)) (x % (64 * words)) ≡ x
  slot_of x = omega (arith, div-add-mod x (64 * words))

  some_words : (c x : ℕ) → x < 64 * (words * c) → 0 < 64 * words
  some_words c x l = pos_of_ne-zero (λ z. let w : words ≡ 0 = omega arith in let e : words * c ≡ 0 = ap (λ (y : ℕ). y * c) w ∙ omega arith in omega arith)

  -- a bit before those of chamber c is one of a chamber before it, and one that is not, is not
  slot_before : (c x : ℕ) → x < 64 * (words * c) → x / (64 * words) < c
  slot_before c x l =
      lt_of_not-le (λ (g : c ≤ x / (64 * words)).
      let m : words * c ≤ words * (x / (64 * words)) = mul-le-mul (le_refl words) g in
      omega (arith, slot_of x))

  slot_after : (c x : ℕ) → 0 < 64 * words → 64 * (words * c) ≤ x → c ≤ x / (64 * words)
  slot_after c x p l =
      let h : c < suc (x / (64 * words)) =
      lt_of_not-le (λ (g : suc (x / (64 * words)) ≤ c).
      let m : words * suc (x / (64 * words)) ≤ words * c = mul-le-mul (le_refl words) g in
      omega (arith, slot_of x, mod-lt x p)) in
      omega arith

  -- a sum over all bits is one over the chambers, of one over the positions
  sum_rows : (f : ℕ → ℕ) (c : ℕ) → sum_over f 0 (64 * (words * c)) ≡ sum_over (λ k. sum_over (λ i. f (slot words k i)) 0 (64 * words)) 0 c
  unfolding sum_over
  sum_rows f zero = let z : 64 * (words * 0) ≡ 0 = omega arith in ap (sum_over f 0) z
  sum_rows f (suc c) =
      let e : 64 * (words * suc c) ≡ 64 * (words * c) + 64 * words = omega arith in
      let z : 0 + 64 * (words * c) ≡ 64 * (words * c) = omega arith in
      let y : 0 + c ≡ c = omega arith in
      ap (sum_over f 0) e ∙ sum_join f 0 (64 * (words * c)) (64 * words)
      ∙ omega (arith, sum_rows f c, ap (λ (a : ℕ). sum_over f a (64 * words)) z, sum_from f (64 * (words * c)) (64 * words), ap (λ (k : ℕ). sum_over (λ i. f (slot words k i)) 0 (64 * words)) y)

-- ---- the pairs of kept bits

-- a list, with a pair before it or not
abbrev led : Bool → Pair → List Pair → List Pair
led t v l = cond t (v ∷ l) l

-- the pair that a bit stands for
abbrev pair_of : List ℤ → List ℤ → ℕ → ℕ → ℕ → Pair
pair_of P Q v words x = pair_at (points_of P) (points_of Q) (chamber_at Q v (x / (64 * words))) (x % (64 * words))

module _ (P Q : List ℤ) (v words : ℕ) (b : List ℕ) where
  pairs_join : (f g x : ℕ) → pairs_from P Q v words b (f + g) x ≡ pairs_from P Q v words b f x ++ pairs_from P Q v words b g (x + f)
  unfolding pairs_from
  pairs_join zero g x =
      let e : zero + g ≡ g = omega arith in
      let d : x + zero ≡ x = omega arith in
      ap (λ (h : ℕ). pairs_from P Q v words b h x) e ∙ ap (pairs_from P Q v words b g) (sym d)
  pairs_join (suc f) g x =
      let e : suc f + g ≡ suc (f + g) = omega arith in
      let d : x + suc f ≡ x + 1 + f = omega arith in
      ap (λ (h : ℕ). pairs_from P Q v words b h x) e
      ∙ go (kept b x) _ _ _ (pairs_join f g (x + 1))
      ∙ ap (λ (y : ℕ). pairs_from P Q v words b (suc f) x ++ pairs_from P Q v words b g y) (sym d)
    where
      go : (t : Bool) (l m r : List Pair) → l ≡ m ++ r → led t (pair_of P Q v words x) l ≡ led t (pair_of P Q v words x) m ++ r
      go true l m r e = ap (λ (y : List Pair). pair_of P Q v words x ∷ y) e
      go false l m r e = e

  pairs_none : (f x : ℕ) → ((y : ℕ) → x ≤ y → y < x + f → kept b y ≡ false) → pairs_from P Q v words b f x ≡ []
  unfolding pairs_from
  pairs_none zero x h = refl
  pairs_none (suc f) x h = rw (h x (omega arith) (omega arith)) (pairs_none f (x + 1) (λ y l u. h y (omega arith) (omega arith)))

  pairs_many : (f x : ℕ) → length (pairs_from P Q v words b f x) ≡ sum_over (λ y. one_if (kept b y)) x f
  unfolding pairs_from sum_over
  pairs_many zero x = refl
  pairs_many (suc f) x = go (kept b x) _ ∙ (omega (arith, pairs_many f (x + 1), sum_one (λ y. one_if (kept b y)) x f))
    where
      go : (t : Bool) (l : List Pair) → length (led t (pair_of P Q v words x) l) ≡ one_if t + length l
      go true l = omega arith
      go false l = omega arith

  -- ---- one after the other

  left_pass : (x : ℕ) → kept b x ≡ false → left_from P Q v words b x ≡ left_from P Q v words b (x + 1)
  unfolding pairs_from
  left_pass x e =
      ⊎_elim
      (λ (t : ltb x (64 * length b) ≡ true).
      let z : 64 * length b - x ≡ suc (64 * length b - (x + 1)) = omega (arith, ltb-true x (64 * length b) t) in
      rw (z, e))
      (λ (t : ltb x (64 * length b) ≡ false).
      let z : 64 * length b - x ≡ 0 = omega (arith, ltb-false x (64 * length b) t) in
      let y : 64 * length b - (x + 1) ≡ 0 = omega (arith, ltb-false x (64 * length b) t) in
      rw (z, y))
      (decide (ltb x (64 * length b)))

  module _ (at x : ℕ) (e : x ≡ next_from b at) where
    left_next : left_from P Q v words b at ≡ left_from P Q v words b x
    left_next = from_skip b (λ (y : ℕ). left_from P Q v words b y) left_pass at x e

    -- where a pair is left there is a bit for it ..
    left_some : (left_from P Q v words b at ≡ [] → ⊥) → x < 64 * length b
    unfolding pairs_from
    left_some some = lt_of_not-le (λ (g : 64 * length b ≤ x). let z : 64 * length b - x ≡ 0 = omega arith in some (left_next ∙ ap (λ (f : ℕ). pairs_from P Q v words b f x) z))

    -- .. and the next pair is that bit's
    left_pair : x < 64 * length b → left_from P Q v words b at ≡ pair_of P Q v words x ∷ left_from P Q v words b (x + 1)
    unfolding pairs_from
    left_pair l =
        let z : 64 * length b - x ≡ suc (64 * length b - (x + 1)) = omega arith in
        left_next ∙ rw (z, from_kept b at x e l)

-- ---- the bits of a run

module _ (P Q : List ℤ) (v words : ℕ) (b : List ℕ) (r : RunSet P Q v words b) where
  abbrev rule : ℕ → ℕ → Bool
  rule k i = ring_pair (points_of P) (points_of Q) (chamber_at Q v k) i

  abbrev pair : ℕ → ℕ → Pair
  pair k i = pair_at (points_of P) (points_of Q) (chamber_at Q v k) i

  -- a kept bit is one of a chamber of the leaf and of a point of P
  kept_exact : (x : ℕ) → x < 64 * length b → kept b x ≡ (ltb (x / (64 * words)) (count_of Q (points Q) v) && ltb (x % (64 * words)) (points P) && rule (x / (64 * words)) (x % (64 * words)))
  kept_exact x l =
      let m : x < 64 * (words * 16) = omega (arith, r.long) in
      ap (kept b) (sym (slot_of words x)) ∙ r.exact (x / (64 * words)) (x % (64 * words)) (slot_before words 16 x m) (mod-lt x (some_words words 16 x m))

  kept_within : (x : ℕ) → x < 64 * length b → kept b x ≡ true → (x / (64 * words) < count_of Q (points Q) v) × (x % (64 * words) < points P)
  kept_within x l e =
      let s = ltb (x / (64 * words)) (count_of Q (points Q) v) in
      let t = ltb (x % (64 * words)) (points P) in
      let both = and_left (s && t) (rule (x / (64 * words)) (x % (64 * words))) (sym (kept_exact x l) ∙ e) in
      (ltb-true _ _ (and_left s t both), ltb-true _ _ (and_right s t both))

  module _ (few : count_of Q (points Q) v ≤ 16) (enough : points P ≤ 64 * words) where
    -- the bits of one chamber are its row of the list
    set_row : (k f i : ℕ) → k < count_of Q (points Q) v → i + f ≡ 64 * words → pairs_from P Q v words b f (slot words k i) ≡ row rule pair k (points P - i) i
    unfolding pairs_from row
    set_row k zero i h e = let z : points P - i ≡ 0 = omega arith in ap (λ (m : ℕ). row rule pair k m i) (sym z)
    set_row k (suc f) i h e = by (ltb i (points P)) refl (set_row k f (i + 1) h (omega arith))
      where
        l : i < 64 * words
        l = omega arith

        left : List Pair
        left = row rule pair k (points P - (i + 1)) (i + 1)

        is : pair_of P Q v words (slot words k i) ≡ pair k i
        is = ap (λ (y : ℕ). pair_at (points_of P) (points_of Q) (chamber_at Q v y) (slot words k i % (64 * words))) (slot_chamber words k i l) ∙ ap (λ (y : ℕ). pair k y) (slot_position words k i l)

        holds : kept b (slot words k i) ≡ (true && ltb i (points P) && rule k i)
        holds = r.exact k i (omega arith) l ∙ ap (λ (t : Bool). t && ltb i (points P) && rule k i) (lt-ltb k (count_of Q (points Q) v) h)

        step : (t : Bool) → ltb i (points P) ≡ t → pairs_from P Q v words b f (slot words k (i + 1)) ≡ left → pairs_from P Q v words b (suc f) (slot words k i) ≡ led (true && t && rule k i) (pair k i) left
        step t u ih =
            let s : slot words k i + 1 ≡ slot words k (i + 1) = omega arith in
            ap (λ (a : Bool). led a (pair_of P Q v words (slot words k i)) (pairs_from P Q v words b f (slot words k i + 1))) (holds ∙ ap (λ (a : Bool). true && a && rule k i) u)
            ∙ ap (λ (m : List Pair). led (true && t && rule k i) (pair_of P Q v words (slot words k i)) m) (ap (pairs_from P Q v words b f) s ∙ ih)
            ∙ ap (λ (y : Pair). led (true && t && rule k i) y left) is

        by : (t : Bool) → ltb i (points P) ≡ t → pairs_from P Q v words b f (slot words k (i + 1)) ≡ left → pairs_from P Q v words b (suc f) (slot words k i) ≡ row rule pair k (points P - i) i
        by true u ih =
            let z : points P - i ≡ suc (points P - (i + 1)) = omega (arith, ltb-true i (points P) u) in
            step true u ih ∙ ap (λ (m : ℕ). row rule pair k m i) (sym z)
        by false u ih =
            let z : points P - i ≡ 0 = omega (arith, ltb-false i (points P) u) in
            let y : points P - (i + 1) ≡ 0 = omega (arith, ltb-false i (points P) u) in
            step false u ih ∙ ap (λ (m : ℕ). row rule pair k m (i + 1)) y ∙ ap (λ (m : ℕ). row rule pair k m i) (sym z)

    -- those of one chamber after the other are the rows
    sets_rows : (c k : ℕ) → k + c ≤ count_of Q (points Q) v → pairs_from P Q v words b (64 * (words * c)) (64 * (words * k)) ≡ rows rule pair (points P) c k
    unfolding pairs_from rows
    sets_rows zero k h = let z : 64 * (words * 0) ≡ 0 = omega arith in ap (λ (f : ℕ). pairs_from P Q v words b f (64 * (words * k))) z
    sets_rows (suc c) k h =
        let e : 64 * (words * suc c) ≡ 64 * words + 64 * (words * c) = omega arith in
        let a : 64 * (words * k) ≡ slot words k 0 = omega arith in
        let d : 64 * (words * k) + 64 * words ≡ 64 * (words * (k + 1)) = omega arith in
        let z : points P - 0 ≡ points P = omega arith in
        let one : pairs_from P Q v words b (64 * words) (64 * (words * k)) ≡ row rule pair k (points P) 0 = ap (pairs_from P Q v words b (64 * words)) a ∙ set_row k (64 * words) 0 (omega arith) (omega arith) ∙ ap (λ (m : ℕ). row rule pair k m 0) z in
        ap (λ (f : ℕ). pairs_from P Q v words b f (64 * (words * k))) e
        ∙ pairs_join P Q v words b (64 * words) (64 * (words * c)) (64 * (words * k))
        ∙ ap (λ (m : List Pair). m ++ pairs_from P Q v words b (64 * (words * c)) (64 * (words * k) + 64 * words)) one
        ∙ ap (λ (y : ℕ). row rule pair k (points P) 0 ++ pairs_from P Q v words b (64 * (words * c)) y) d
        ∙ ap (λ (m : List Pair). row rule pair k (points P) 0 ++ m) (sets_rows c (k + 1) (omega arith))

    ends : 64 * (words * count_of Q (points Q) v) ≤ 64 * length b
    ends = let m : words * count_of Q (points Q) v ≤ words * 16 = mul-le-mul (le_refl words) few in omega (arith, r.long)

    -- no bit is kept past those of the leaf's chambers
    past_none : (x : ℕ) → 64 * (words * count_of Q (points Q) v) ≤ x → x < 64 * length b → kept b x ≡ false
    past_none x h l =
        ⊎_elim
        (λ (t : kept b x ≡ true).
        let m : x < 64 * (words * 16) = omega (arith, r.long) in
        absurd (omega (arith, (kept_within x l t).0, slot_after words (count_of Q (points Q) v) x (some_words words 16 x m) h)))
        (λ (f : kept b x ≡ false). f)
        (decide (kept b x))

    -- the pairs of all bits are the run
    run_pairs : left_from P Q v words b 0 ≡ leaf_list P Q v
    unfolding leaf_list list_by
    run_pairs =
        let c = count_of Q (points Q) v in
        let g = 64 * length b - 64 * (words * c) in
        let e : 64 * length b - 0 ≡ 64 * (words * c) + g = omega (arith, ends) in
        let z : 64 * (words * 0) ≡ 0 = omega arith in
        let y : 0 + 64 * (words * c) ≡ 64 * (words * c) = omega arith in
        ap (λ (f : ℕ). pairs_from P Q v words b f 0) e
        ∙ pairs_join P Q v words b (64 * (words * c)) g 0
        ∙ ap (λ (m : List Pair). pairs_from P Q v words b (64 * (words * c)) 0 ++ m) (pairs_none P Q v words b g (0 + 64 * (words * c)) (λ x u w. past_none x (omega arith) (omega (arith, ends))))
        ∙ append-nil _
        ∙ ap (pairs_from P Q v words b (64 * (words * c))) (sym z)
        ∙ sets_rows c 0 (omega arith)

-- ---- the loop over the kept bits of the filter walk

-- the ring walk of the pair that a bit stands for
abbrev pub walk_of : List ℤ → List ℤ → ℕ → ℕ → ℕ → Answer
walk_of P Q v words x = pair_walk P Q (chamber_at Q v (x / (64 * words))) (x % (64 * words))

-- ---- the filter walk keeps no bit past those of the leaf's chambers

-- a walk of which only right states are asked
abbrev Then : {S : Type 0} → S → S → Type 0
Then s t = Unit {0}

abbrev Done : {S : Type 0} → S → ℕ → Type 0
Done s k = Unit {0}

right_steps : {S : Type 0} (Good : S → Type 0) → Steps Good Then Done
right_steps Good = record { same = λ s. tt; after = λ s t u x y. tt; still = λ s t k x d. tt }

right : {S : Type 0} (Good : S → Type 0) (s t : S) (C : ℕ → Type 0) → Good t → Does Good Then Done s t C
right Good s t C g = record { good = g; more = tt; done = λ k x. tt }

module _ (q : ℕ → Spot) (c words : ℕ) (w : List ℤ) (o : Opens w (points w) (nodes w)) (few : c ≤ 16) (enough : points w ≤ 64 * words) where
  record Before (b : List ℕ) : Type 0 where
    long : length b ≡ 16 * words
    before : (x : ℕ) → kept b x ≡ true → x < 64 * (words * c)

  weigh_before : (i h : ℕ) → i < points w → h < c → (b : List ℕ) → Before b → Before (weigh q c words w (points w) i h b)
  unfolding weigh
  weigh_before i h l k b g = by (ruled_out q c words w (points w) (λ p. drops (q h) p (spot_of w i)) h b)
    where
      by : (t : Bool) → Before (cond t b (with b (slot words h i)))
      by true = g
      by false =
          record {
            long = with_length b (slot words h i) ∙ g.long;
            before = λ x e.
                ⊎_elim
                (λ (z : x ≡ slot words h i). let m : words * suc h ≤ words * c = mul-le-mul {n₁ = words} {m₁ = suc h} {n₂ = words} {m₂ = c} (le_refl words) (omega arith) in omega arith)
                (λ (y : kept b x ≡ true). g.before x y)
                (kept_only b (slot words h i) x (omega (arith, slot_fits words h i (omega arith) (omega arith), g.long)) e);
          }

  abbrev Good : Kept → Type 0
  Good k = Before k.bits

  take_before : (r : ℕ) → r < points w → (k : Kept) → Good k → Good (leaf_take q c words w (points w) r k)
  unfolding leaf_take
  take_before r l k g =
      (turn_does Before Then Done (right_steps Before) (weigh q c words w (points w) (order_of w (points w) r)) (λ h x. Unit {0}) c 0
      (λ h _ u b d. right Before _ _ _ (weigh_before (order_of w (points w) r) h (order_below w (points w) o.ordered r l) (omega arith) b d))
      k.bits g).good

  visit_before : (j : ℕ) (go : Kept → Kept) → ((k : Kept) → Good k → Good (go k)) → (k : Kept) → Good k → Good (leaf_visit q c words w (points w) j go k)
  unfolding leaf_visit
  visit_before j go does k g = by (all_b c (skips q c words w (points w) j k.bits))
    where
      by : (t : Bool) → Good (cond t k (go (so_far k.bits (k.opened + 1))))
      by true = g
      by false = does (so_far k.bits (k.opened + 1)) g

  leaf_before : Good (leaf_kept q c words w)
  unfolding leaf_kept
  leaf_before =
      (all_does Good Then Done (right_steps Good) w (points w) (nodes w) o.table (leaf_visit q c words w (points w)) (leaf_take q c words w (points w))
      (λ r l k g. right Good _ _ _ (take_before r l k g))
      (λ l j u e go does k g. right Good _ _ _ (visit_before j go (λ s x. (does s x).good) k g))
      o.empty (so_far (none (16 * words)) 0) (record { long = none_length (16 * words); before = λ x e. clash e (none_kept (16 * words) x) })
      ).good

-- ---- the run of the leaf v of Q

-- what the filter walk keeps for it
abbrev pub at_first : List ℤ → List ℤ → ℕ → ℕ → Kept
at_first P Q v words = leaf_kept (chamber_spot Q v) (count_of Q (points Q) v) words P

module _ (words : ℕ) (P Q : List ℤ) (p_opens : Opens P (points P) (nodes P)) (q_opens : Opens Q (points Q) (nodes Q)) (enough : points P ≤ 64 * words) (v : ℕ) (v-in : v < nodes Q) (v-leaf : level_of Q (points Q) v ≡ 0) where
  few : count_of Q (points Q) v ≤ 16
  few = leaf_few Q q_opens v v-in v-leaf

  pub run_left_lem : (b : List ℕ) → RunSet P Q v words b → left_from P Q v words b 0 ≡ leaf_list P Q v
  run_left_lem b r = run_pairs P Q v words b r few enough

  -- a bit past those of the chambers is not kept at first, nor one past the points
  unkept_past : (x : ℕ) → 64 * (words * count_of Q (points Q) v) ≤ x → kept (at_first P Q v words).bits x ≡ false
  unkept_past x h =
      ⊎_elim
      (λ (t : kept (at_first P Q v words).bits x ≡ true). absurd (omega (arith, (leaf_before (chamber_spot Q v) (count_of Q (points Q) v) words P p_opens few enough).before x t)))
      (λ (f : kept (at_first P Q v words).bits x ≡ false). f)
      (decide (kept (at_first P Q v words).bits x))

  unkept_point : (k i : ℕ) → i < 64 * words → points P ≤ i → kept (at_first P Q v words).bits (slot words k i) ≡ false
  unkept_point k i l h =
      ⊎_elim
      (λ (t : kept (at_first P Q v words).bits (slot words k i) ≡ true). absurd (omega (arith, leaf_below (chamber_spot Q v) (count_of Q (points Q) v) words P p_opens few enough k i l t)))
      (λ (f : kept (at_first P Q v words).bits (slot words k i) ≡ false). f)
      (decide (kept (at_first P Q v words).bits (slot words k i)))

  walk_slot : (k i : ℕ) → i < 64 * words → walk_of P Q v words (slot words k i) ≡ pair_walk P Q (chamber_at Q v k) i
  walk_slot k i l =
      ap (λ (y : ℕ). pair_walk P Q (chamber_at Q v y) (slot words k i % (64 * words))) (slot_chamber words k i l)
      ∙ ap (pair_walk P Q (chamber_at Q v k)) (slot_position words k i l)

  -- the bits that stay are those of the ring pairs
  stays_exact : (k i : ℕ) → i < 64 * words → stays (walk_of P Q v words) (at_first P Q v words).bits (slot words k i) ≡ (ltb k (count_of Q (points Q) v) && ltb i (points P) && ring_pair (points_of P) (points_of Q) (chamber_at Q v k) i)
  unfolding stays
  stays_exact k i l = by (ltb k (count_of Q (points Q) v)) refl (ltb i (points P)) refl
    where
      by : (s : Bool) → ltb k (count_of Q (points Q) v) ≡ s → (t : Bool) → ltb i (points P) ≡ t → stays (walk_of P Q v words) (at_first P Q v words).bits (slot words k i) ≡ (s && t && ring_pair (points_of P) (points_of Q) (chamber_at Q v k) i)
      by true e true f =
          ap (λ (a : Answer). kept (at_first P Q v words).bits (slot words k i) && clear a.hit) (walk_slot k i l)
          ∙ sym (leaf_exact words P Q p_opens q_opens enough v v-in v-leaf k i (ltb-true k (count_of Q (points Q) v) e) (ltb-true i (points P) f))
      by true e false f = stays_not (walk_of P Q v words) (at_first P Q v words).bits (slot words k i) (unkept_point k i l (ltb-false i (points P) f))
      by false e t f =
          let m : words * count_of Q (points Q) v ≤ words * k = mul-le-mul (le_refl words) (ltb-false k (count_of Q (points Q) v) e) in
          stays_not (walk_of P Q v words) (at_first P Q v words).bits (slot words k i) (unkept_past (slot words k i) (omega arith))

  -- where the loop ends, everything is settled
  module _ (b : List ℕ) (count opened x : ℕ) (s : Sifts (walk_of P Q v words) (at_first P Q v words).bits (at_first P Q v words).opened b count opened x) (past : 64 * (words * count_of Q (points Q) v) ≤ x) where
    all_settled : (y : ℕ) → kept b y ≡ stays (walk_of P Q v words) (at_first P Q v words).bits y
    all_settled y =
        ⊎_elim
        (λ (t : ltb y x ≡ true). s.sifted.below y (ltb-true y x t))
        (λ (t : ltb y x ≡ false).
        let n = unkept_past y (omega (arith, ltb-false y x t)) in
        s.sifted.above y (ltb-false y x t) ∙ n ∙ sym (stays_not (walk_of P Q v words) (at_first P Q v words).bits y n))
        (decide (ltb y x))

    end_set : RunSet P Q v words b
    end_set =
        record {
          long = s.sifted.long ∙ leaf_long (chamber_spot Q v) (count_of Q (points Q) v) words P p_opens few enough;
          exact = λ k i h l. all_settled (slot words k i) ∙ stays_exact k i l;
        }

    end_count : count ≡ length (leaf_list P Q v)
    end_count =
        let E = 64 * (words * count_of Q (points Q) v) in
        let f : ℕ → ℕ = λ y. one_if (stays (walk_of P Q v words) (at_first P Q v words).bits y) in
        let none : (y : ℕ) → E ≤ y → f y ≡ 0 = λ y h. ap one_if (stays_not (walk_of P Q v words) (at_first P Q v words).bits y (unkept_past y h)) in
        s.sifted.counted
        ∙ sum_past f E x past (λ y h l. none y h)
        ∙ sym (sum_past f E (64 * length b - 0) (omega (arith, ends P Q v words b end_set few enough)) (λ y h l. none y h))
        ∙ sum_same f (λ y. one_if (kept b y)) 0 (64 * length b - 0) (λ y l. ap one_if (sym (all_settled (0 + y))))
        ∙ sym (pairs_many P Q v words b (64 * length b - 0) 0)
        ∙ ap length (run_left_lem b end_set)

    end_opened : opened ≡ leaf_opened words P Q v
    unfolding leaf_opened spends
    end_opened =
        let c = count_of Q (points Q) v in
        let f : ℕ → ℕ = spends (walk_of P Q v words) (at_first P Q v words).bits in
        s.sifted.spent
        ∙ ap (λ (y : ℕ). (at_first P Q v words).opened + y)
        (sum_past f (64 * (words * c)) x past (λ y h l. spends_not (walk_of P Q v words) (at_first P Q v words).bits y (unkept_past y h))
        ∙ sum_rows words f c
        ∙ sum_same _ _ 0 c (λ k l.
        sum_past (λ i. f (slot words (0 + k) i)) (points P) (64 * words) enough (λ i h m. spends_not (walk_of P Q v words) (at_first P Q v words).bits (slot words (0 + k) i) (unkept_point (0 + k) i m h))
        ∙ sum_same _ _ 0 (points P) (λ i m. ap (λ (a : Answer). cond (leaf_keeps (chamber_spot Q v) c words P (0 + k) (0 + i)) a.opened 0) (walk_slot (0 + k) (0 + i) (omega arith)))))

-- ---- what the functions ask, of sheets that open by the counts that they are told

-- the loop, after the filter walk of the leaf v
abbrev pub Going : List ℤ → List ℤ → ℕ → ℕ → List ℕ → ℕ → ℕ → ℕ → Type 0
Going P Q v words b count opened x = Sifts (walk_of P Q v words) (at_first P Q v words).bits (at_first P Q v words).opened b count opened x

-- the same, with x passed
abbrev pub Passed : List ℤ → List ℤ → ℕ → ℕ → List ℕ → ℕ → ℕ → ℕ → Type 0
Passed P Q v words b count opened x = Sifted (walk_of P Q v words) (at_first P Q v words).bits (at_first P Q v words).opened b count opened x

-- what `run_made` and `pair_from` are told: a leaf v of Q, and words for sixteen kept sets
pub record Told (P : List ℤ) (np mp : ℕ) (Q : List ℤ) (nq mq v words : ℕ) : Type 0 where
  pub p_opens : Opens P np mp
  pub q_opens : Opens Q nq mq
  pub here : v < mq
  pub level : level_of Q nq v ≡ 0
  pub enough : np ≤ 64 * words
  pub small : words ≤ 1000

-- a bit of one of the leaf's chambers and of a point of P
pub record Met (Q : List ℤ) (np nq v words : ℕ) (b : List ℕ) (x : ℕ) : Type 0 where
  pub some : 0 < 64 * words
  pub fits : x < 64 * length b
  pub chamber : x / (64 * words) < count_of Q nq v
  pub position : x % (64 * words) < np

pub tell : {P Q : List ℤ} {np mp nq mq v words : ℕ} {b : List ℕ} → Opens P np mp → Opens Q nq mq → v < mq → level_of Q nq v ≡ 0 → Sets b words np → Told P np mp Q nq mq v words
tell o o' h l s = record { p_opens = o; q_opens = o'; here = h; level = l; enough = s.enough; small = s.small }

module _ {P Q : List ℤ} {np mp nq mq v words : ℕ} (told : Told P np mp Q nq mq v words) where
  in_q : v < nodes Q
  in_q = omega (arith, told.here, told.q_opens.m_is)

  leaf_q : level_of Q (points Q) v ≡ 0
  leaf_q = ap (λ (n : ℕ). level_of Q n v) told.q_opens.n_is ∙ told.level

  all_p : points P ≤ 64 * words
  all_p = omega (arith, told.enough, told.p_opens.n_is)

  count_is : count_of Q nq v ≡ count_of Q (points Q) v
  count_is = ap (λ (n : ℕ). count_of Q n v) (sym told.q_opens.n_is)

  chambers_few : (c : ℕ) → c ≡ count_of Q nq v → c ≤ 16
  chambers_few c e = omega (arith, count_is, leaf_few Q (by_counts told.q_opens) v in_q leaf_q)

  -- the words that all chambers take
  pub run_words_few : (c : ℕ) → c ≡ count_of Q nq v → words * c ≤ 16000
  run_words_few c e = mul-le-mul {n₁ = words} {m₁ = c} {n₂ = 1000} {m₂ = 16} told.small (chambers_few c e)

  -- where the chamber of a bit stands, and which it is
  pub place_in : (first x : ℕ) → first ≡ first_of Q nq v → x / (64 * words) < count_of Q nq v → first + x / (64 * words) < nq
  place_in first x e h = omega (arith, told.q_opens.n_is, ap (λ (n : ℕ). first_of Q n v) told.q_opens.n_is, leaf_place Q (by_counts told.q_opens) v in_q leaf_q (x / (64 * words)) (omega (arith, count_is)))

  chamber_is : (first j x : ℕ) → first ≡ first_of Q nq v → j ≡ order_of Q nq (first + x / (64 * words)) → j ≡ chamber_at Q v (x / (64 * words))
  unfolding chamber_at
  chamber_is first j x e f = f ∙ ap (λ (a : ℕ). order_of Q nq (a + x / (64 * words))) e ∙ ap (λ (n : ℕ). order_of Q n (first_of Q n v + x / (64 * words))) (sym told.q_opens.n_is)

  pub position_in : (first j x : ℕ) → first ≡ first_of Q nq v → j ≡ order_of Q nq (first + x / (64 * words)) → x / (64 * words) < count_of Q nq v → j < nq
  position_in first j x e f h = omega (arith, told.q_opens.n_is, chamber_is first j x e f, chamber_in Q (by_counts told.q_opens) v in_q leaf_q (x / (64 * words)) (omega (arith, count_is)))

  -- ---- the loop

  pub leaf_going_start : (b : List ℕ) (opened u : ℕ) → b ≡ (leaf_kept (chamber_spot Q v) (count_of Q nq v) words P).bits → opened ≡ (leaf_kept (chamber_spot Q v) (count_of Q nq v) words P).opened → u ≡ next_from b 0 → Going P Q v words b 0 opened u
  leaf_going_start b opened u e f g =
      subst (λ (c : ℕ). Sifts (walk_of P Q v words) (leaf_kept (chamber_spot Q v) c words P).bits (leaf_kept (chamber_spot Q v) c words P).opened b 0 opened u) count_is
      (walk_sift_start (walk_of P Q v words) _ _ b opened u e f g)

  pub passed_long : (b : List ℕ) (count opened x : ℕ) → Passed P Q v words b count opened x → length b ≡ 16 * words
  passed_long b count opened x s = s.long ∙ leaf_long (chamber_spot Q v) (count_of Q (points Q) v) words P (by_counts told.p_opens) (leaf_few Q (by_counts told.q_opens) v in_q leaf_q) all_p

  module _ (b : List ℕ) (count opened x : ℕ) (s : Going P Q v words b count opened x) where
    -- a bit of the leaf's chambers
    module _ (c : ℕ) (e : c ≡ count_of Q nq v) (l : x < 64 * (words * c)) where
      fits_in : x < 64 * length b
      fits_in = let m : words * c ≤ words * 16 = mul-le-mul (le_refl words) (chambers_few c e) in omega (arith, passed_long b count opened x s.sifted)

      at_first_lem : x < 64 * length (at_first P Q v words).bits
      at_first_lem = omega (arith, fits_in, s.sifted.long)

      pub going_met : Met Q np nq v words b x
      going_met =
          record {
            some = some_words words c x l;
            fits = fits_in;
            chamber = omega (arith, slot_before words c x l);
            position = omega (arith, told.p_opens.n_is, leaf_below (chamber_spot Q v) (count_of Q (points Q) v) words P (by_counts told.p_opens) (leaf_few Q (by_counts told.q_opens) v in_q leaf_q) all_p (x / (64 * words)) (x % (64 * words)) (mod-lt x (some_words words c x l)) (ap (kept _) (slot_of words x) ∙ s.here at_first_lem));
          }

      pub going_few : count ≤ 1024000
      going_few = omega (arith, run_words_few c e, sift_few (walk_of P Q v words) _ _ b count opened x s)

      -- the counts have room for one ring walk more
      pub leaf_going_room : (a : Answer) (j i : ℕ) → a ≡ pair_walk P Q j i → opened + a.opened < 9223372036854775808
      leaf_going_room a j i f =
          let m : x * (mp + mq) ≤ 1024000 * 48000 = mul-le-mul {n₁ = x} {m₁ = mp + mq} {n₂ = 1024000} {m₂ = 48000} (omega (arith, run_words_few c e)) (omega (arith, told.p_opens.m_le, told.q_opens.m_le)) in
          omega (
            arith,
            told.p_opens.m_is,
            told.p_opens.m_le,
            told.q_opens.m_is,
            told.q_opens.m_le,
            leaf_opened_lem (chamber_spot Q v) (count_of Q (points Q) v) words P (by_counts told.p_opens),
            sift_room (walk_of P Q v words) _ _ b count opened x s (mp + mq) (λ y. omega (arith, told.p_opens.m_is, told.q_opens.m_is, pair_opened circle circle_lawful P Q (by_counts told.p_opens) (by_counts told.q_opens) (chamber_at Q v (y / (64 * words))) (y % (64 * words)))),
            ap (λ (y : Answer). y.opened) f,
            pair_opened circle circle_lawful P Q (by_counts told.p_opens) (by_counts told.q_opens) j i,
          )

      -- one turn: the bit stays, or is taken out
      module _ (first j : ℕ) (f : first ≡ first_of Q nq v) (g : j ≡ order_of Q nq (first + x / (64 * words))) (a : Answer) (h : a ≡ pair_walk P Q j (x % (64 * words))) (t : Bool) (u : t ≡ clear a.hit) where
        walk_is : a ≡ walk_of P Q v words x
        walk_is = h ∙ ap (λ (y : ℕ). pair_walk P Q y (x % (64 * words))) (chamber_is first j x f g)

        pub going_clear : t ≡ true → (b' : List ℕ) (n : ℕ) → b' ≡ b → n ≡ count + 1 → Passed P Q v words b' n (opened + a.opened) (x + 1)
        going_clear y b' n y₁ y₂ = rw (y₁, y₂) (sift_clear (walk_of P Q v words) _ _ b count opened x s at_first_lem a walk_is t u y)

        pub going_gone : t ≡ false → (b' : List ℕ) (n : ℕ) → b' ≡ without b x → n ≡ count → Passed P Q v words b' n (opened + a.opened) (x + 1)
        going_gone y b' n y₁ y₂ = rw (y₁, y₂) (sift_gone (walk_of P Q v words) _ _ b count opened x s at_first_lem a walk_is t u y)

    module _ (c : ℕ) (e : c ≡ count_of Q nq v) (past : 64 * (words * c) ≤ x) where
      reached : 64 * (words * count_of Q (points Q) v) ≤ x
      reached = let z : words * c ≡ words * count_of Q (points Q) v = ap (λ (y : ℕ). words * y) (e ∙ count_is) in omega arith

      pub made_set : RunSet P Q v words b
      made_set = end_set words P Q (by_counts told.p_opens) (by_counts told.q_opens) all_p v in_q leaf_q b count opened x s reached

      pub made_count : count ≡ length (leaf_list P Q v)
      made_count = end_count words P Q (by_counts told.p_opens) (by_counts told.q_opens) all_p v in_q leaf_q b count opened x s reached

      pub made_opened : opened ≡ leaf_opened words P Q v
      made_opened = end_opened words P Q (by_counts told.p_opens) (by_counts told.q_opens) all_p v in_q leaf_q b count opened x s reached

  -- ---- the next pair

  module _ (b : List ℕ) (r : RunSet P Q v words b) (at x : ℕ) (e : x ≡ next_from b at) (some : left_from P Q v words b at ≡ [] → ⊥) where
    next_fits : x < 64 * length b
    next_fits = left_some P Q v words b at x e some

    pub next_met : Met Q np nq v words b x
    next_met =
        let w = kept_within P Q v words b r x next_fits (from_kept b at x e next_fits) in
        record {
          some = some_words words 16 x (omega (arith, next_fits, r.long));
          fits = next_fits;
          chamber = omega (arith, count_is, w.0);
          position = omega (arith, told.p_opens.n_is, w.1);
        }

    pub next_few : x < 1024000
    next_few = omega (arith, next_fits, r.long, told.small)

    pub next_pair : (first j : ℕ) (y : Pair) → first ≡ first_of Q nq v → j ≡ order_of Q nq (first + x / (64 * words)) → y ≡ pair_at (points_of P) (points_of Q) j (x % (64 * words))
        → left_from P Q v words b at ≡ y ∷ left_from P Q v words b (x + 1)
    next_pair first j y f g h =
        left_pair P Q v words b at x e next_fits
        ∙ ap (λ (z : Pair). z ∷ left_from P Q v words b (x + 1)) (sym (h ∙ ap (λ (k : ℕ). pair_at (points_of P) (points_of Q) k (x % (64 * words))) (chamber_is first j x f g)))
