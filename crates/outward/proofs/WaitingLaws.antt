-- Laws for the code that keeps what waits in lent numbers: distances as words, the lent numbers that hold them, the heap in which they stand, a number on its way up or down in it, the root, and the lent numbers wiped.
-- Assumes nothing.
use mathlib.Core.Path.{◌≡◌, refl, sym, ap, subst, ◌∙◌}
use mathlib.Core.Bool.{Bool, true, false, cond, ◌&&◌, ◌||◌}
use mathlib.Core.Logic.{inl}
use mathlib.Core.List.{List, [], ◌∷◌, ◌++◌, append_assoc}
use Prim.Native.Nat.{ℕ, zero, suc, ◌+◌, ◌-◌, ◌*◌, ◌/◌, ◌%◌, ◌<◌, ◌≤◌}
use native.Mathlib.Omega.{arith}
use native.Mathlib.Nat.{mul-le-mul}
use native.Mathlib.Numerals.{add-one}
use lib.Dec.{eqb, ltb}
use lib.IntN.{ℤ, pos, nat_abs, ◌+ℤ◌, ◌-ℤ◌}
use lib.ListN.{length, get_or, set, drop, replicate, length-set, length-replicate, replicate-append-replicate}
use lib.Seq.{get_or-set_same, get_or-set_other, drop-set-lt, drop-cons, drop-drop, set_at}
use lib.Signed.{lt_z}
use borrow.Author.Tests.{lt-ltb, le-ltb, eqb-true}
use Rattle.integers.specs.Bounds.{Within}
use Rattle.integers.proofs.Order.{in--, in_up, in_lit, abs_mul}
use Rattle.words.specs.Word.{num}
use Rattle.plane.specs.declared.Spot.{Spot}
use Rattle.plane.specs.declared.Boxed.{Boxed}
use Rattle.plane.specs.Rule.{SpotIn, BoxIn, sq, out, size}
use Rattle.sheet.specs.Nodes.{first_of, count_of}
use Rattle.sheet.specs.Places.{spot_of, box_of}
use Rattle.sheet.specs.Open.{Opens}
use Rattle.walk.specs.Walk.{in_turn}
use Rattle.walk.proofs.TurnLaws.{Turn, turn_start, turn_step, turn_end}
use Rattle.outward.specs.Waiting.{box_entry, away, distance, before, insert, covered, with_covered}
use Rattle.outward.specs.NearWalk.{root_waits}
use Rattle.outward.specs.Room.{entry_of, entry_at, listed, Packed, Keys, Heaped, Taken, Lesser, Kind, box, point, InRun, Past}
use Rattle.outward.proofs.ListLaws.{Leads, before_leads, unless_before, leads_before, leads_self, insert_length}
use Rattle.outward.proofs.HeapLaws.{same_or, every, Swapped, picked, picked_same, picked_swap, picked_first, Heap, heap_first, Rising, rising_step, rising_stop, rising_end, Sinking, Least, sinking_step, sinking_stop, sinking_end}
use Rattle.outward.proofs.EntryLaws.{covered_kind, run_small}
use Rattle.bits.specs.Set.{wiped}

-- ---- distances

out_within : (lo hi c : ℤ) → Within 1_000_000_000 lo → Within 1_000_000_000 hi → Within 1_000_000_000 c → Within 2_000_000_000 (out lo hi c)
out_within lo hi c h k l = go (lt_z c lo) (lt_z hi c)
  where
    go : (s t : Bool) → Within 2_000_000_000 (cond s (lo -ℤ c) (cond t (c -ℤ hi) (pos 0)))
    go true t = in_up (in-- h l) tt
    go false true = in_up (in-- l k) tt
    go false false = in_lit tt

pub near_wide : {z : ℤ} → Within 1_000_000_000 z → Within 2_000_000_000 z
near_wide h = in_up h tt

-- the square of an integer within two billion is at most this
square_most : (r : ℕ) (z : ℤ) → pos r ≡ sq z → Within 2_000_000_000 z → r ≤ 4_000_000_000_000_000_000
square_most r z e h =
    let l : nat_abs z ≤ 2000000000 = h.abs in
    let y : r ≡ nat_abs z * nat_abs z = ap nat_abs e ∙ abs_mul z z in
    omega (arith, mul-le-mul l l)

module _ (q : Spot) (o : Boxed) (x y : ℕ) (q_in : SpotIn q) (o-in : BoxIn o) (ex : pos x ≡ sq (out o.xmin o.xmax q.x)) (ey : pos y ≡ sq (out o.ymin o.ymax q.y)) where
  pub away_fits : x + y < 18446744073709551616
  away_fits =
      let a = square_most x _ ex (out_within _ _ _ o-in.xmin_in o-in.xmax_in q_in.x_in) in
      let b = square_most y _ ey (out_within _ _ _ o-in.ymin_in o-in.ymax_in q_in.y_in) in
      omega arith

  pub away_is : x + y ≡ num (away q o)
  unfolding num
  away_is = ap (λ (z : ℤ). num (pos x +ℤ z)) ey ∙ ap (λ (z : ℤ). num (z +ℤ sq (out o.ymin o.ymax q.y))) ex

module _ (w : List ℤ) (n m : ℕ) (q : Spot) (e : ℕ) where
  distance_box_is : e < m + 1 → distance w n m q e ≡ num (away q (box_of w n (e - 1)))
  unfolding distance
  distance_box_is h = rw (lt-ltb e (m + 1) h)

  distance_point_is : m + 1 ≤ e → distance w n m q e ≡ num (size q (spot_of w (e - (m + 1))))
  unfolding distance
  distance_point_is h = rw (le-ltb e (m + 1) h)

pub kind_box : {n m e : ℕ} → Kind n m e → e < m + 1 → (0 < e) × (e - 1 < m)
kind_box (box j h z) b = (omega arith, omega arith)
kind_box (point i h z) b = absurd (omega arith)

pub kind_point : {n m e : ℕ} → Kind n m e → m + 1 ≤ e → e - (m + 1) < n
kind_point (box j h z) b = absurd (omega arith)
kind_point (point i h z) b = omega arith

pub distance_by_box : (w : List ℤ) (n m : ℕ) (q : Spot) (e r : ℕ) (o : Boxed) → e < m + 1 → o ≡ box_of w n (e - 1) → r ≡ num (away q o) → r ≡ distance w n m q e
distance_by_box w n m q e r o h x y = y ∙ ap (λ (b : Boxed). num (away q b)) x ∙ sym (distance_box_is w n m q e h)

pub distance_by_point : (w : List ℤ) (n m : ℕ) (q : Spot) (e r : ℕ) (z : Spot) → m + 1 ≤ e → z ≡ spot_of w (e - (m + 1)) → pos r ≡ size q z → r ≡ distance w n m q e
unfolding num
distance_by_point w n m q e r z h x y = ap num y ∙ ap (λ (b : Spot). num (size q b)) x ∙ sym (distance_point_is w n m q e h)

pub before_is : (w : List ℤ) (n m : ℕ) (q : Spot) (e f d g : ℕ) → d ≡ distance w n m q e → g ≡ distance w n m q f → (ltb d g || (eqb d g && ltb e f)) ≡ before w n m q e f
unfolding before
before_is w n m q e f d g x y = rw (x, y)

-- ---- lent numbers

-- a number that waits fits in 17 bits
pub kind_small : {n m e : ℕ} → n ≤ 60000 → m ≤ 24000 → Kind n m e → e < 131072
kind_small a b (box j h z) = omega arith
kind_small a b (point i h z) = omega arith

pub key_packed : (w : List ℤ) (n m : ℕ) (q : Spot) (d e : ℕ) → n ≤ 60000 → m ≤ 24000 → Kind n m e → d ≡ distance w n m q e → Packed w n m q (d / 131072 * 131072 + e) × (entry_of (d / 131072 * 131072 + e) ≡ e)
key_packed w n m q d e a b k h =
    let y = kind_small a b k in
    let x = d / 131072 * 131072 + e in
    let z : x % 131072 ≡ e = omega arith in
    let t : x / 131072 ≡ d / 131072 = omega arith in
    (record { kind = subst (Kind n m) (sym z) k; high = t ∙ ap (λ (i : ℕ). i / 131072) (h ∙ ap (distance w n m q) (sym z)) }, z)

module _ (w : List ℤ) (n m : ℕ) (q : Spot) (x y : ℕ) (a : Packed w n m q x) (b : Packed w n m q y) where
  pub before_high : x / 131072 < y / 131072 → true ≡ before w n m q (entry_of x) (entry_of y)
  unfolding before
  before_high h =
      let d = distance w n m q (entry_of x) in
      let g = distance w n m q (entry_of y) in
      let z : d < g = omega (arith, a.high, b.high) in
      rw (lt-ltb d g z)

  pub before_low : y / 131072 < x / 131072 → false ≡ before w n m q (entry_of x) (entry_of y)
  before_low h =
      let d = distance w n m q (entry_of x) in
      let g = distance w n m q (entry_of y) in
      let z : g < d = omega (arith, a.high, b.high) in
      sym (leads_before w n m q (entry_of y) (entry_of x) (record { by = inl z }))

-- ---- the lent numbers by their places

-- what waits under the number at a place
abbrev standing : List ℕ → ℕ → ℕ
standing ws k = entry_at ws k

set_here : (ws : List ℕ) (k v : ℕ) → k < length ws → standing (set ws k v) k ≡ entry_of v
set_here ws k v h = ap entry_of (get_or-set_same ws k v 0 h)

set_else : (ws : List ℕ) (k v i : ℕ) → (i ≡ k → ⊥) → standing (set ws k v) i ≡ standing ws i
set_else ws k v i h = ap entry_of (get_or-set_other ws k i v 0 h)

module _ (w : List ℤ) (n m : ℕ) (q : Spot) where
  listed_picked : (ws : List ℕ) (c : ℕ) → listed w n m q ws c ≡ picked w n m q every (standing ws) c
  unfolding listed picked
  listed_picked ws zero = refl
  listed_picked ws (suc c) = ap (insert w n m q (standing ws c)) (listed_picked ws c)

  pub listed_length : (ws : List ℕ) (c : ℕ) → length (listed w n m q ws c) ≡ c
  unfolding listed
  listed_length ws zero = refl
  listed_length ws (suc c) = insert_length w n m q (standing ws c) (listed w n m q ws c) ∙ ap suc (listed_length ws c)

  -- a number written at k: all others are as they were
  key_set : (ws : List ℕ) (k v i : ℕ) → k < length ws → Packed w n m q v → ((i ≡ k → ⊥) → Packed w n m q (get_or ws i 0)) → Packed w n m q (get_or (set ws k v) i 0)
  key_set ws k v i h p x =
      same_or i k
      (λ z. subst (Packed w n m q) (sym (ap (λ (j : ℕ). get_or (set ws k v) j 0) z ∙ get_or-set_same ws k v 0 h)) p)
      (λ z. subst (Packed w n m q) (sym (get_or-set_other ws k i v 0 z)) (x z))

  heap_of : (ws : List ℕ) (c : ℕ) → Heaped w n m q ws c → Heap w n m q (standing ws) c
  unfolding Heap
  heap_of ws c h i k a b u = unless_before w n m q (standing ws k) (standing ws i) (h.up i k a b u)

  heaped_of : (ws : List ℕ) (c : ℕ) → Keys w n m q ws c → Heap w n m q (standing ws) c → Heaped w n m q ws c
  unfolding Heap
  heaped_of ws c a h = record { keys = a; up = λ i k x y u. leads_before w n m q (standing ws i) (standing ws k) (h i k x y u) }

  -- the nearest stands at place 0; once it goes, the last stands for it
  module _ (ws : List ℕ) (c : ℕ) (some : 0 < c) (h : Heaped w n m q ws c) where
    pub heaped_fewer : Heaped w n m q ws (c - 1)
    heaped_fewer = record { keys = record { each = λ k u. h.keys.each k (omega arith) }; up = λ i k a b u. h.up i k a b (omega arith) }

    listed_first : c ≤ length ws → listed w n m q ws c ≡ entry_at ws 0 ∷ listed w n m q (set ws 0 (get_or ws (c - 1) 0)) (c - 1)
    listed_first l =
        let ws' = set ws 0 (get_or ws (c - 1) 0) in
        let z : c ≡ suc (c - 1) = omega arith in
        listed_picked ws c ∙ ap (picked w n m q every (standing ws)) z
        ∙ picked_first w n m q (standing ws) (standing ws') (c - 1) (λ k u. heap_first w n m q (standing ws) c (heap_of ws c h) k (omega arith)) (set_here ws 0 (get_or ws (c - 1) 0) (omega arith)) (λ k y. set_else ws 0 (get_or ws (c - 1) 0) k y)
        ∙ ap (λ (l : List ℕ). entry_at ws 0 ∷ l) (sym (listed_picked ws' (c - 1)))

    pub taken_by : c ≤ length ws → (ws' : List ℕ) → listed w n m q ws' (c - 1) ≡ listed w n m q (set ws 0 (get_or ws (c - 1) 0)) (c - 1) → Heaped w n m q ws' (c - 1) → Past (n + m) ws ws' → Taken w n m q ws ws' c (entry_at ws 0)
    taken_by l ws' e g p = record { first = listed_first l ∙ ap (λ (y : List ℕ). entry_at ws 0 ∷ y) (sym e); heap = g; past = p }

  -- the lesser of two
  pub lesser_one : (ws : List ℕ) (c j : ℕ) → j < c → c ≤ j + 1 → Lesser w n m q ws c j j
  lesser_one ws c j h g = record { low = omega arith; high = omega arith; few = h; least = λ k a b u. let z : k ≡ j = omega arith in ap (λ (i : ℕ). before w n m q (standing ws i) (standing ws j)) z ∙ leads_before w n m q (standing ws j) (standing ws j) (leads_self w n m q (standing ws j)) }

  module _ (ws : List ℕ) (c j : ℕ) (h : j + 1 < c) where
    either : (r : ℕ) → before w n m q (standing ws j) (standing ws r) ≡ false → before w n m q (standing ws (j + 1)) (standing ws r) ≡ false → (k : ℕ) → j ≤ k → k ≤ j + 1 → before w n m q (standing ws k) (standing ws r) ≡ false
    either r x y k a b =
        same_or k j
        (λ z. ap (λ (i : ℕ). before w n m q (standing ws i) (standing ws r)) z ∙ x)
        (λ z. let t : k ≡ j + 1 = omega arith in ap (λ (i : ℕ). before w n m q (standing ws i) (standing ws r)) t ∙ y)

    self : (r : ℕ) → before w n m q (standing ws r) (standing ws r) ≡ false
    self r = leads_before w n m q (standing ws r) (standing ws r) (leads_self w n m q (standing ws r))

    pub lesser_second : before w n m q (entry_at ws (j + 1)) (entry_at ws j) ≡ true → Lesser w n m q ws c j (j + 1)
    lesser_second t =
        let x = leads_before w n m q (standing ws (j + 1)) (standing ws j) (before_leads w n m q (standing ws (j + 1)) (standing ws j) t) in
        record { low = omega arith; high = omega arith; few = h; least = λ k a b u. either (j + 1) x (self (j + 1)) k a b }

    pub lesser_first : before w n m q (entry_at ws (j + 1)) (entry_at ws j) ≡ false → Lesser w n m q ws c j j
    lesser_first t = record { low = omega arith; high = omega arith; few = omega arith; least = λ k a b u. either j (self j) t k a b }

-- ---- what is left as it was

-- what is written below k leaves the rest as it was
pub past_same : (k : ℕ) (ws : List ℕ) → Past k ws ws
past_same k ws = record { long = refl; rest = refl }

pub past_set : (k i v : ℕ) (ws ws' : List ℕ) → i < k → Past k ws ws' → Past k ws (set ws' i v)
past_set k i v ws ws' h p = record { long = length-set ws' i v ∙ p.long; rest = drop-set-lt k ws' i v h ∙ p.rest }

pub past_wider : (k k' : ℕ) (a b : List ℕ) → k ≤ k' → Past k a b → Past k' a b
past_wider k k' a b h p =
    let z : k' ≡ k + (k' - k) = omega arith in
    record { long = p.long; rest = ap (λ (i : ℕ). drop i b) z ∙ sym (drop-drop (k' - k) k b) ∙ ap (drop (k' - k)) p.rest ∙ drop-drop (k' - k) k a ∙ ap (λ (i : ℕ). drop i a) (sym z) }

pub past_past : (k : ℕ) (a b c : List ℕ) → Past k a b → Past k b c → Past k a c
past_past k a b c x y = record { long = y.long ∙ x.long; rest = y.rest ∙ x.rest }

-- ---- one number on its way up or down: x is held, and is to be written at k

module _ (w : List ℤ) (n m : ℕ) (q : Spot) (x : ℕ) where
  abbrev held : List ℕ → ℕ → ℕ → ℕ
  held ws k = standing (set ws k x)

  -- what stands at i is moved to k, and x is to be written at i
  held_swap : (ws : List ℕ) (k i : ℕ) → k < length ws → i < length ws → (k ≡ i → ⊥) → Swapped (held ws k) (held (set ws k (get_or ws i 0)) i) k i
  held_swap ws k i h g d =
      let f = get_or ws i 0 in
      let ws' = set ws k f in
      let d' : i ≡ k → ⊥ = λ z. d (sym z) in
      record {
        at_i = set_else ws' i x k d ∙ set_here ws k f h ∙ sym (set_else ws k x i d');
        at_j = set_here ws' i x (omega (arith, length-set ws k f)) ∙ sym (set_here ws k x h);
        else = λ j y z. set_else ws' i x j z ∙ set_else ws k f j y ∙ sym (set_else ws k x j y);
      }

  -- on its way up, among the first count + 1: e is to be put in
  pub record Moved (e count : ℕ) (ws₀ ws : List ℕ) (k : ℕ) : Type 0 where
    pub most : k ≤ count
    pub keys : (i : ℕ) → i ≤ count → (i ≡ k → ⊥) → Packed w n m q (get_or ws i 0)
    pub left : picked w n m q every (held ws k) (count + 1) ≡ insert w n m q e (listed w n m q ws₀ count)
    pub rising : Rising w n m q (held ws k) (count + 1) k
    pub past : Past (n + m) ws₀ ws

  pub moved_start : (e count : ℕ) (ws : List ℕ) → count < length ws → entry_of x ≡ e → Heaped w n m q ws count → Moved e count ws ws count
  unfolding picked
  moved_start e count ws few is h =
      let same : (k : ℕ) → (k ≡ count → ⊥) → held ws count k ≡ standing ws k = λ k. set_else ws count x k in
      record {
        most = omega arith;
        keys = λ i u z. h.keys.each i (omega arith);
        left =
            ap (picked w n m q every (held ws count)) (add-one count)
            ∙ ap (λ (i : ℕ). insert w n m q i (picked w n m q every (held ws count) count)) (set_here ws count x few ∙ is)
            ∙ ap (insert w n m q e) (picked_same w n m q every every (held ws count) (standing ws) count (λ k u. refl) (λ k u t. same k (λ z. omega arith)) ∙ sym (listed_picked w n m q ws count));
        rising = record {
          rest = λ i j a b u z. subst (λ (s : ℕ). Leads w n m q s (held ws count j)) (sym (same i (λ t. omega arith)))
              (subst (λ (s : ℕ). Leads w n m q (standing ws i) s) (sym (same j z)) (unless_before w n m q (standing ws j) (standing ws i) (h.up i j a b (omega arith))));
          over = λ i j a b s t u. absurd (omega arith);
        };
        past = past_same (n + m) ws;
      }

  module _ (key : Packed w n m q x) (e count : ℕ) (ws₀ ws : List ℕ) (k : ℕ) (few : count < n + m) (long : n + m ≤ length ws₀) (y : Moved e count ws₀ ws k) where
    pub moved_fits : k < length ws
    moved_fits = omega (arith, y.most, y.past.long)

    moved_done : Heap w n m q (held ws k) (count + 1) → (listed w n m q (set ws k x) (count + 1) ≡ insert w n m q e (listed w n m q ws₀ count)) × Heaped w n m q (set ws k x) (count + 1) × Past (n + m) ws₀ (set ws k x)
    moved_done h = (
      listed_picked w n m q (set ws k x) (count + 1) ∙ y.left,
      heaped_of w n m q (set ws k x) (count + 1) (record { each = λ i u. key_set w n m q ws k x i moved_fits key (y.keys i (omega arith)) }) h,
      past_set (n + m) k x ws₀ ws (omega (arith, y.most)) y.past,
    )

    pub moved_end : k ≡ 0 → (listed w n m q (set ws k x) (count + 1) ≡ insert w n m q e (listed w n m q ws₀ count)) × Heaped w n m q (set ws k x) (count + 1) × Past (n + m) ws₀ (set ws k x)
    moved_end z = moved_done (rising_end w n m q (held ws k) (count + 1) k z y.rising)

    -- i is the place above k
    module _ (i : ℕ) (a : i + i + 1 ≤ k) (b : k ≤ i + i + 2) where
      pub moved_key : Packed w n m q (get_or ws i 0)
      moved_key = y.keys i (omega (arith, y.most)) (λ z. omega arith)

      here : held ws k k ≡ entry_of x
      here = set_here ws k x moved_fits

      there : held ws k i ≡ entry_at ws i
      there = set_else ws k x i (λ z. omega arith)

      pub moved_step : before w n m q (entry_of x) (entry_at ws i) ≡ true → Moved e count ws₀ (set ws k (get_or ws i 0)) i
      moved_step t =
          let s = held_swap ws k i moved_fits (omega (arith, moved_fits)) (λ z. omega arith) in
          let f = get_or ws i 0 in
          let lead : Leads w n m q (held ws k k) (held ws k i) = subst (λ (z : ℕ). Leads w n m q z (held ws k i)) (sym here) (subst (Leads w n m q (entry_of x)) (sym there) (before_leads w n m q (entry_of x) (entry_at ws i) t)) in
          record {
            most = omega (arith, y.most);
            keys = λ j u z. key_set w n m q ws k f j moved_fits moved_key (y.keys j u);
            left = picked_swap w n m q (held ws k) (held (set ws k f) i) (count + 1) k i (omega (arith, y.most)) (omega (arith, y.most)) (λ z. omega arith) s ∙ y.left;
            rising = rising_step w n m q (held ws k) (held (set ws k f) i) (count + 1) k i (omega (arith, y.most)) a b lead s y.rising;
            past = past_set (n + m) k f ws₀ ws (omega (arith, y.most)) y.past;
          }

      pub moved_stop : before w n m q (entry_of x) (entry_at ws i) ≡ false → (listed w n m q (set ws k x) (count + 1) ≡ insert w n m q e (listed w n m q ws₀ count)) × Heaped w n m q (set ws k x) (count + 1) × Past (n + m) ws₀ (set ws k x)
      moved_stop t =
          let lead : Leads w n m q (held ws k i) (held ws k k) = subst (λ (z : ℕ). Leads w n m q z (held ws k k)) (sym there) (subst (Leads w n m q (entry_at ws i)) (sym here) (unless_before w n m q (entry_of x) (entry_at ws i) t)) in
          moved_done (rising_stop w n m q (held ws k) (count + 1) k i a b lead y.rising)

  -- on its way down, among the first count
  pub record Sunk (count : ℕ) (ws₀ ws : List ℕ) (k : ℕ) : Type 0 where
    pub most : k ≤ count
    pub keys : Keys w n m q ws count
    pub left : picked w n m q every (held ws k) count ≡ listed w n m q (set ws₀ 0 x) count
    pub sinking : Sinking w n m q (held ws k) count k
    pub past : Past (n + m) ws₀ ws

  pub sunk_start : (count : ℕ) (ws : List ℕ) → Heaped w n m q ws count → Sunk count ws ws 0
  sunk_start count ws h =
      let same : (k : ℕ) → (k ≡ 0 → ⊥) → held ws 0 k ≡ standing ws k = λ k. set_else ws 0 x k in
      record {
        most = omega arith;
        keys = h.keys;
        left = sym (listed_picked w n m q (set ws 0 x) count);
        sinking = record {
          rest = λ i j a b u z. subst (λ (s : ℕ). Leads w n m q s (held ws 0 j)) (sym (same i z))
              (subst (λ (s : ℕ). Leads w n m q (standing ws i) s) (sym (same j (λ t. omega arith))) (unless_before w n m q (standing ws j) (standing ws i) (h.up i j a b u)));
          over = λ i j a b s t u. absurd (omega arith);
        };
        past = past_same (n + m) ws;
      }

  module _ (key : Packed w n m q x) (count : ℕ) (ws₀ ws : List ℕ) (k : ℕ) (few : count < n + m) (long : n + m ≤ length ws₀) (y : Sunk count ws₀ ws k) where
    pub sunk_fits : k < length ws
    sunk_fits = omega (arith, y.most, y.past.long)

    pub sunk_long : n + m ≤ length ws
    sunk_long = omega (arith, y.past.long)

    sunk_done : Heap w n m q (held ws k) count → (listed w n m q (set ws k x) count ≡ listed w n m q (set ws₀ 0 x) count) × Heaped w n m q (set ws k x) count × Past (n + m) ws₀ (set ws k x)
    sunk_done h = (
      listed_picked w n m q (set ws k x) count ∙ y.left,
      heaped_of w n m q (set ws k x) count (record { each = λ i u. key_set w n m q ws k x i sunk_fits key (λ z. y.keys.each i u) }) h,
      past_set (n + m) k x ws₀ ws (omega (arith, y.most)) y.past,
    )

    pub sunk_end : count ≤ k + k + 1 → (listed w n m q (set ws k x) count ≡ listed w n m q (set ws₀ 0 x) count) × Heaped w n m q (set ws k x) count × Past (n + m) ws₀ (set ws k x)
    sunk_end h = sunk_done (sinking_end w n m q (held ws k) count k h y.sinking)

    -- r is the lesser of the two below k
    module _ (r : ℕ) (l : Lesser w n m q ws count (k + k + 1) r) where
      at_k : held ws k k ≡ entry_of x
      at_k = set_here ws k x sunk_fits

      at_r : held ws k r ≡ entry_at ws r
      at_r = set_else ws k x r (λ z. omega (arith, l.low))

      least : Least w n m q (held ws k) count k r
      unfolding Least
      least j a b u =
          subst (λ (s : ℕ). Leads w n m q s (held ws k j)) (sym at_r)
          (subst (λ (s : ℕ). Leads w n m q (standing ws r) s) (sym (set_else ws k x j (λ z. omega arith))) (unless_before w n m q (standing ws j) (standing ws r) (l.least j a (omega arith) u)))

      pub sunk_key : Packed w n m q (get_or ws r 0)
      sunk_key = y.keys.each r l.few

      pub sunk_step : before w n m q (entry_of x) (entry_at ws r) ≡ false → Sunk count ws₀ (set ws k (get_or ws r 0)) r
      sunk_step t =
          let f = get_or ws r 0 in
          let s = held_swap ws k r sunk_fits (omega (arith, l.few, sunk_long)) (λ z. omega (arith, l.low)) in
          let lead : Leads w n m q (held ws k r) (held ws k k) = subst (λ (z : ℕ). Leads w n m q z (held ws k k)) (sym at_r) (subst (Leads w n m q (entry_at ws r)) (sym at_k) (unless_before w n m q (entry_of x) (entry_at ws r) t)) in
          record {
            most = omega (arith, l.few);
            keys = record { each = λ i u. key_set w n m q ws k f i sunk_fits sunk_key (λ z. y.keys.each i u) };
            left = picked_swap w n m q (held ws k) (held (set ws k f) r) count k r (omega (arith, l.low, l.few)) l.few (λ z. omega (arith, l.low)) s ∙ y.left;
            sinking = sinking_step w n m q (held ws k) (held (set ws k f) r) count k r l.few l.low (omega (arith, l.high)) lead least s y.sinking;
            past = past_set (n + m) k f ws₀ ws (omega (arith, y.most)) y.past;
          }

      pub sunk_stop : before w n m q (entry_of x) (entry_at ws r) ≡ true → (listed w n m q (set ws k x) count ≡ listed w n m q (set ws₀ 0 x) count) × Heaped w n m q (set ws k x) count × Past (n + m) ws₀ (set ws k x)
      sunk_stop t =
          let lead : Leads w n m q (held ws k k) (held ws k r) = subst (λ (z : ℕ). Leads w n m q z (held ws k r)) (sym at_k) (subst (Leads w n m q (entry_of x)) (sym at_r) (before_leads w n m q (entry_of x) (entry_at ws r) t)) in
          sunk_done (sinking_stop w n m q (held ws k) count k r lead least y.sinking)

-- ---- what a node covers, put in one after the other

module _ (w : List ℤ) (n m : ℕ) (q : Spot) (j : ℕ) where
  -- i of what node j covers are in
  pub record Filled (count first more : ℕ) (ws₀ ws : List ℕ) (i : ℕ) : Type 0 where
    pub turn : Turn (λ k. insert w n m q (covered w n m j k)) first more (listed w n m q ws₀ count) (listed w n m q ws (count + i)) i
    pub heap : Heaped w n m q ws (count + i)
    pub past : Past (n + m) ws₀ ws

  pub filled_start : (count first more : ℕ) (ws : List ℕ) → Heaped w n m q ws count → Filled count first more ws ws 0
  filled_start count first more ws h =
      let z : count + 0 ≡ count = omega arith in
      record { turn = rw z (turn_start _ first more (listed w n m q ws count)); heap = rw z h; past = past_same (n + m) ws }

  module _ (o : Opens w n m) (h : j < m) (count first more : ℕ) (ws₀ ws : List ℕ) (i : ℕ) (is_first : first ≡ first_of w n j) (is_count : more ≡ count_of w n j) (x : Filled count first more ws₀ ws i) where
    pub filled_run : i < more → InRun w n j (first + i)
    filled_run u = record { low = omega arith; high = omega arith }

    pub filled_small : i < more → first + i < n + m
    filled_small u = run_small w n m j (first + i) o h (filled_run u)

    pub filled_kind : i < more → (e : ℕ) → e ≡ covered w n m j (first + i) → Kind n m e
    filled_kind u e z = subst (Kind n m) (sym z) (covered_kind w n m o j (first + i) h (filled_run u))

    pub filled_step : (ws' : List ℕ) (e : ℕ) → i < more → e ≡ covered w n m j (first + i) → listed w n m q ws' (count + i + 1) ≡ insert w n m q e (listed w n m q ws (count + i)) → Heaped w n m q ws' (count + i + 1) → Past (n + m) ws ws' → Filled count first more ws₀ ws' (i + 1)
    filled_step ws' e u z y g p =
        let v : count + i + 1 ≡ count + (i + 1) = omega arith in
        let l : listed w n m q ws' (count + (i + 1)) ≡ insert w n m q (covered w n m j (first + i)) (listed w n m q ws (count + i)) = ap (listed w n m q ws') (sym v) ∙ y ∙ ap (λ (k : ℕ). insert w n m q k (listed w n m q ws (count + i))) z in
        record {
          turn = turn_step _ first more (listed w n m q ws₀ count) (listed w n m q ws (count + i)) (listed w n m q ws' (count + (i + 1))) i u x.turn l;
          heap = subst (Heaped w n m q ws') v g;
          past = past_past (n + m) ws₀ ws ws' x.past p;
        }

    pub filled_end : more ≤ i → (listed w n m q ws (count + more) ≡ with_covered w n m q j (listed w n m q ws₀ count)) × Heaped w n m q ws (count + more) × (count + more ≡ count + count_of w n j) × Past (n + m) ws₀ ws
    unfolding with_covered
    filled_end u =
        let z : i ≡ more = omega (arith, x.turn.most) in
        let f : ℕ → List ℕ → List ℕ = λ k. insert w n m q (covered w n m j k) in (
          ap (λ (k : ℕ). listed w n m q ws (count + k)) (sym z) ∙ turn_end f first more (listed w n m q ws₀ count) (listed w n m q ws (count + i)) i u x.turn
              ∙ ap (λ (a : ℕ). in_turn f more a (listed w n m q ws₀ count)) is_first ∙ ap (λ (a : ℕ). in_turn f a (first_of w n j) (listed w n m q ws₀ count)) is_count,
          subst (λ (k : ℕ). Heaped w n m q ws (count + k)) z x.heap,
          omega arith,
          x.past,
        )

-- ---- the root

pub root_kind : (n m : ℕ) → (m ≡ 0 → ⊥) → Kind n m m
root_kind n m z = box (m - 1) (omega arith) (omega arith)

module _ (w : List ℤ) (n m : ℕ) (q : Spot) where
  pub root_none : (ws : List ℕ) → m ≡ 0 → (listed w n m q ws 0 ≡ root_waits m) × Heaped w n m q ws 0
  unfolding root_waits listed
  root_none ws z = ((rw z), record { keys = record { each = λ k u. absurd (omega arith) }; up = λ i k a b u. absurd (omega arith) })

  pub root_some : (ws : List ℕ) (x : ℕ) → (m ≡ 0 → ⊥) → 0 < length ws → Packed w n m q x → entry_of x ≡ m → (listed w n m q (set ws 0 x) 1 ≡ root_waits m) × Heaped w n m q (set ws 0 x) 1
  unfolding root_waits listed insert
  root_some ws x z h p is = (
    ap (λ (i : ℕ). i ∷ []) (set_here ws 0 x h ∙ is) ∙ go (eqb m 0) refl,
    record { keys = record { each = λ k u. key_set w n m q ws 0 x k h p (λ y. absurd (omega arith)) }; up = λ i k a b u. absurd (omega arith) },
  )
    where
      go : (t : Bool) → eqb m 0 ≡ t → (m ∷ []) ≡ cond t [] (box_entry (m - 1) ∷ [])
      go true e = absurd (z (eqb-true m 0 e))
      go false e = let y : m ≡ box_entry (m - 1) = omega arith in ap (λ (i : ℕ). i ∷ []) y

-- ---- wiped

pub wiped_start : (ws : List ℕ) → ws ≡ wiped 0 ws
unfolding wiped
wiped_start ws = refl

pub wiped_step : (ws₀ ws : List ℕ) (i : ℕ) → i < length ws₀ → ws ≡ wiped i ws₀ → set ws i 0 ≡ wiped (i + 1) ws₀
unfolding wiped
wiped_step ws₀ ws i h e =
    ap (λ (l : List ℕ). set l i 0) (e ∙ ap (λ (l : List ℕ). replicate i 0 ++ l) (drop-cons ws₀ i 0 h))
    ∙ set_at (replicate i 0) (get_or ws₀ i 0) (drop (suc i) ws₀) 0 i (length-replicate i 0)
    ∙ sym (append_assoc (replicate i 0) (0 ∷ []) (drop (suc i) ws₀))
    ∙ ap (λ (l : List ℕ). l ++ drop (suc i) ws₀) (replicate-append-replicate i 1 0)
    ∙ ap (λ (k : ℕ). replicate (i + 1) 0 ++ drop k ws₀) (sym (add-one i))

-- what leaves the rest as it was leaves the same behind, once wiped
pub wiped_past : (k : ℕ) (ws ws' : List ℕ) → Past k ws ws' → wiped k ws' ≡ wiped k ws
unfolding wiped
wiped_past k ws ws' p = ap (λ (l : List ℕ). replicate k 0 ++ l) p.rest
