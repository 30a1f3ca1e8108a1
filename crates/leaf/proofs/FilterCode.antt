-- What the code of the filter walk of a leaf run goes by: a chamber, what rules out, one position for each chamber, one node, and the loop over what a node covers.
-- Assumes nothing.
use mathlib.Core.Path.{◌≡◌, refl, sym, ap, subst, ◌∙◌}
use mathlib.Core.Bool.{Bool, true, false, not, ◌&&◌, or-true, or-false}
use mathlib.Core.Logic.{⊎_elim}
use mathlib.Core.List.{List}
use Prim.Native.Nat.{ℕ, zero, suc, ◌+◌, ◌-◌, ◌*◌, ◌/◌, ◌%◌, ◌<◌, ◌≤◌}
use native.Mathlib.Omega.{arith}
use native.Mathlib.Nat.{pos_of_ne-zero, mul-le-mul, le_refl}
use lib.Dec.{eqb, ltb}
use lib.IntN.{ℤ}
use lib.ListN.{length, get_or, take, drop}
use lib.Seq.{get_or-take, get_or-drop}
use borrow.Author.Tests.{eq-eqb, ne_eqb, ltb-true, ltb-false}
use Rattle.integers.proofs.Bools.{and_both, decide}
use Rattle.words.specs.All.{all_b}
use Rattle.words.proofs.AllLaws.{all_make, all_more, all_stop, all_done}
use Rattle.plane.specs.declared.Spot.{Spot}
use Rattle.plane.specs.declared.Boxed.{Boxed}
use Rattle.plane.specs.Rule.{drops, drops_box, box_at}
use Rattle.plane.proofs.RuleLaws.{point_box}
use Rattle.sheet.specs.Layout.{points, nodes}
use Rattle.sheet.specs.Order.{order_of}
use Rattle.sheet.specs.Nodes.{level_of, first_of, count_of}
use Rattle.sheet.specs.Places.{spot_of, box_of}
use Rattle.sheet.specs.Boxes.{sum_over, tree_size}
use Rattle.bits.specs.Set.{digit, at, kept, with, none, some, Finds}
use Rattle.bits.proofs.SomeLaws.{some_none}
use Rattle.walk.specs.Walk.{in_turn, walk, walk_all}
use Rattle.walk.specs.FilterWalk.{Kept, so_far}
use Rattle.walk.proofs.TurnLaws.{Turn, turn_start, turn_step, turn_end}
use Rattle.walk.proofs.NodeLaws.{Node, leaf_fits, few, position_fits}
use Rattle.walk.proofs.RoomLaws.{room_start, room_here, room_after}
use Rattle.leaf.specs.LeafWalk.{slot, some_b, chamber_at, chamber_spot, ruled_out, weigh, leaf_take, skips, leaf_visit, leaf_node, leaf_kept}
use Rattle.leaf.specs.Room.{Leaf, Sets}
use Rattle.leaf.proofs.LeafLaws.{leaf_node_opened}

-- ---- a loop that looks for a number at which a test holds

pub some_found : (p : ℕ → Bool) (i n : ℕ) → i < n → p i ≡ true → true ≡ some_b n p
some_found p i n h e = ap not (all_stop (λ k. not (p k)) i n h (ap not e))

pub some_more : (p : ℕ → Bool) (i : ℕ) → all_b i (λ k. not (p k)) ≡ true → p i ≡ false → all_b (i + 1) (λ k. not (p k)) ≡ true
some_more p i e f = all_more (λ k. not (p k)) i e (ap not f)

pub some_lacks : (p : ℕ → Bool) (i n : ℕ) → i ≤ n → n ≤ i → all_b i (λ k. not (p k)) ≡ true → false ≡ some_b n p
some_lacks p i n h k e = ap not (all_done (λ k. not (p k)) i n h k e)

-- ---- a chamber of the leaf

module _ (w : List ℤ) (n m v first c : ℕ) (l : Leaf w n m v first c) where
  node : Node w n m v 0 first c
  node = record { table = l.opens.table; here = l.here; is_level = sym l.level; is_first = l.is_first; is_count = l.is_count }

  pub chambers_few : c ≤ 16
  chambers_few = few w n m v 0 first c node

  pub chamber_place : (k : ℕ) → k < c → first + k < n
  chamber_place k h = omega (arith, leaf_fits w n m v 0 first c node refl)

  pub chamber_fits : (k i : ℕ) → k < c → i ≡ order_of w n (first + k) → i < n
  chamber_fits k i h e = position_fits w n m l.opens (first + k) i (chamber_place k h) e

  pub chamber_is : (k i : ℕ) (z : Spot) → i ≡ order_of w n (first + k) → z ≡ spot_of w i → z ≡ chamber_spot w v k
  unfolding chamber_spot chamber_at
  chamber_is k i z e f =
      f ∙ ap (spot_of w) (e ∙ ap (λ (x : ℕ). order_of w n (x + k)) l.is_first ∙ ap (λ (x : ℕ). order_of w x (first_of w x v + k)) (sym l.opens.n_is))

-- the chamber at place h is another than k, and has the test
abbrev pub other : List ℤ → ℕ → ℕ → (Spot → Bool) → ℕ → Bool
other w v k by h = not (eqb h k) && by (chamber_spot w v h)

pub same_chamber : (h k : ℕ) (t : Bool) → h ≡ k → false ≡ (not (eqb h k) && t)
same_chamber h k t e = rw (eq-eqb h k e)

pub other_chamber : (h k : ℕ) (t r : Bool) → (h ≡ k → ⊥) → r ≡ t → r ≡ (not (eqb h k) && t)
other_chamber h k t r d e = rw (ne_eqb h k d) e

-- ---- the set of chamber k, a part of the lent words

set_fits : (words k : ℕ) → k < 16 → words * k + words ≤ 16 * words
set_fits words k h =
    let a : suc k ≤ 16 = omega arith in
    let b : words * suc k ≤ words * 16 = mul-le-mul (le_refl words) a in
    omega (arith, b)

pub set_in : (b : List ℕ) (words n k : ℕ) → Sets b words n → k < 16 → words * k + words ≤ length b
set_in b words n k s h = omega (arith, set_fits words k h, s.long)

-- words as many as before are sets as before
pub still_sets : (b b' : List ℕ) (words n : ℕ) → length b' ≡ length b → Sets b words n → Sets b' words n
still_sets b b' words n e s = record { long = e ∙ s.long; enough = s.enough; small = s.small }

own_kept : (b : List ℕ) (words k i : ℕ) → i < 64 * words → kept (take words (drop (words * k) b)) i ≡ kept b (slot words k i)
unfolding kept at
own_kept b words k i h =
    let x : slot words k i / 64 ≡ words * k + i / 64 = omega arith in
    let y : slot words k i % 64 ≡ i % 64 = omega arith in
    let l : i / 64 < words = omega arith in
    let e : get_or (take words (drop (words * k) b)) (i / 64) 0 ≡ get_or b (words * k + i / 64) 0 = get_or-take words (drop (words * k) b) (i / 64) 0 l ∙ get_or-drop (words * k) b (i / 64) 0 in
    rw (x, y) (ap (λ (u : ℕ). eqb (digit u (i % 64)) 1) e)

-- what a search of that part finds is what is asked of the positions kept for chamber k
pub own_asks : (b : List ℕ) (words k : ℕ) (p : ℕ → Bool) (n r : ℕ) → n ≤ 64 * words → Finds (take (words * k + words - words * k) (drop (words * k) b)) p n r → ltb r n ≡ some_b n (λ i. kept b (slot words k i) && p i)
own_asks b words k p n r enough f =
    ⊎_elim
    (λ (t : ltb r n ≡ true).
    let h : r < n = ltb-true r n t in
    t ∙ some_found test r n h (and_both (kept b (slot words k r)) (p r) (sym (same r h) ∙ f.known.is_kept h) (f.holds h)))
    (λ (t : ltb r n ≡ false).
    t ∙ some_lacks test n n (le_refl n) (le_refl n) (all_make _ n (λ i h. ap not (fails i h (f.none_left (ltb-false r n t)) (kept b (slot words k i)) refl))))
    (decide (ltb r n))
  where
    own : List ℕ
    own = take (words * k + words - words * k) (drop (words * k) b)

    test : ℕ → Bool
    test i = kept b (slot words k i) && p i

    same : (i : ℕ) → i < n → kept own i ≡ kept b (slot words k i)
    same i h =
        let e : words * k + words - words * k ≡ words = omega arith in
        ap (λ (l : ℕ). kept (take l (drop (words * k) b)) i) e ∙ own_kept b words k i (omega arith)

    fails : (i : ℕ) → i < n → some own p n 0 ≡ false → (t : Bool) → kept b (slot words k i) ≡ t → (t && p i) ≡ false
    fails i h none true e = some_none own p n 0 none i (omega arith) (omega arith) (same i h ∙ e)
    fails i h none false e = refl

module _ (q : ℕ → Spot) (c words : ℕ) (w : List ℤ) (n : ℕ) where
  -- ---- what rules out

  pub ruled_other : (by : Spot → Bool) (k : ℕ) (b : List ℕ) → some_b c (λ h. not (eqb h k) && by (q h)) ≡ true → true ≡ ruled_out q c words w n by k b
  unfolding ruled_out
  ruled_other by k b e = rw e (sym (or-true (some_b n (λ i. kept b (slot words k i) && by (spot_of w i)))))

  pub ruled_kept : (by : Spot → Bool) (k : ℕ) (b : List ℕ) (r : Bool) → some_b c (λ h. not (eqb h k) && by (q h)) ≡ false → r ≡ some_b n (λ i. kept b (slot words k i) && by (spot_of w i)) → r ≡ ruled_out q c words w n by k b
  unfolding ruled_out
  ruled_kept by k b r e f = rw e (f ∙ sym (or-false (some_b n (λ i. kept b (slot words k i) && by (spot_of w i)))))

  -- ---- a position and a box, for chamber k

  asked : (i k : ℕ) (b : List ℕ) (a z : Spot) (o : Boxed) (r t : Bool) → a ≡ q k → z ≡ spot_of w i → o ≡ box_at z → r ≡ ruled_out q c words w n (λ p. drops_box a p o) k b → r ≡ t → ruled_out q c words w n (λ p. drops (q k) p (spot_of w i)) k b ≡ t
  asked i k b a z o r t e f h g u =
      (λ x. ruled_out q c words w n (λ p. sym (point_box (sym e x) p (spot_of w i)) x) k b)
      ∙ ap (λ (x : Boxed). ruled_out q c words w n (λ p. drops_box a p x) k b) (sym (h ∙ ap box_at f)) ∙ sym g ∙ u

  pub weigh_yes : (i k : ℕ) (b : List ℕ) (a z : Spot) (o : Boxed) (r : Bool) → a ≡ q k → z ≡ spot_of w i → o ≡ box_at z → r ≡ ruled_out q c words w n (λ p. drops_box a p o) k b → r ≡ true → b ≡ weigh q c words w n i k b
  unfolding weigh
  weigh_yes i k b a z o r e f h g t = rw (asked i k b a z o r true e f h g t)

  pub weigh_no : (i k : ℕ) (b b' : List ℕ) (a z : Spot) (o : Boxed) (r : Bool) → a ≡ q k → z ≡ spot_of w i → o ≡ box_at z → r ≡ ruled_out q c words w n (λ p. drops_box a p o) k b → r ≡ false → b' ≡ with b (slot words k i) → b' ≡ weigh q c words w n i k b
  unfolding weigh
  weigh_no i k b b' a z o r e f h g t s = rw (asked i k b a z o r false e f h g t) s

  pub skips_is : (j k : ℕ) (b : List ℕ) (a : Spot) (o : Boxed) (r : Bool) → a ≡ q k → o ≡ box_of w n j → r ≡ ruled_out q c words w n (λ p. drops_box a p o) k b → r ≡ skips q c words w n j b k
  unfolding skips
  skips_is j k b a o r e f g =
      g ∙ ap (λ (x : Boxed). ruled_out q c words w n (λ p. drops_box a p x) k b) f ∙ ap (λ (x : Spot). ruled_out q c words w n (λ p. drops_box x p (box_of w n j)) k b) e

  -- ---- a node

  -- for each chamber in turn, the position standing at place r
  abbrev pub place : ℕ → List ℕ → List ℕ
  place r = in_turn (weigh q c words w n (order_of w n r)) c 0

  pub leaf_place_is : (r i : ℕ) (b b' : List ℕ) → i ≡ order_of w n r → b' ≡ in_turn (weigh q c words w n i) c 0 b → b' ≡ place r b
  leaf_place_is r i b b' e f = f ∙ ap (λ (x : ℕ). in_turn (weigh q c words w n x) c 0 b) e

  -- the places of a leaf open no node
  take_turn : (d a : ℕ) (k : Kept) → so_far (in_turn place d a k.bits) k.opened ≡ in_turn (leaf_take q c words w n) d a k
  unfolding in_turn leaf_take
  take_turn zero a k = refl
  take_turn (suc d) a k = take_turn d (a + 1) (so_far (place a k.bits) k.opened)

  pub node_skip : (l j : ℕ) (k : Kept) → all_b c (skips q c words w n j k.bits) ≡ true → k ≡ leaf_node q c words w n l j k
  unfolding leaf_node walk leaf_visit
  node_skip zero j k e = rw e
  node_skip (suc l) j k e = rw e

  pub leaf_node_leaf : (l j first count : ℕ) (b b' : List ℕ) (o : ℕ) → l ≡ 0 → first ≡ first_of w n j → count ≡ count_of w n j → all_b c (skips q c words w n j b) ≡ false → b' ≡ in_turn place count first b → so_far b' (o + 1) ≡ leaf_node q c words w n l j (so_far b o)
  unfolding leaf_node walk leaf_visit
  leaf_node_leaf l j first count b b' o z p d e f =
      ap (λ (x : List ℕ). so_far x (o + 1)) f ∙ take_turn count first (so_far b (o + 1)) ∙ (rw (z, p, d, e))

  node_down : (l j first count : ℕ) (b : List ℕ) (o : ℕ) → first ≡ first_of w n j → count ≡ count_of w n j → all_b c (skips q c words w n j b) ≡ false → in_turn (leaf_node q c words w n l) count first (so_far b (o + 1)) ≡ leaf_node q c words w n (suc l) j (so_far b o)
  unfolding leaf_node walk leaf_visit
  node_down l j first count b o p d e = rw (p, d, e)

  pub leaf_node_above : (l j first count : ℕ) (b : List ℕ) (o : ℕ) → (l ≡ 0 → ⊥) → first ≡ first_of w n j → count ≡ count_of w n j → all_b c (skips q c words w n j b) ≡ false → in_turn (leaf_node q c words w n (l - 1)) count first (so_far b (o + 1)) ≡ leaf_node q c words w n l j (so_far b o)
  leaf_node_above l j first count b o z p d e =
      let s : suc (l - 1) ≡ l = omega (arith, pos_of_ne-zero z) in
      node_down (l - 1) j first count b o p d e ∙ ap (λ (i : ℕ). leaf_node q c words w n i j (so_far b o)) s

  -- ---- the loop over what a node covers: words b and o nodes opened after i of them, b₀ and o₀ before; there is room to count the rest

  pub record Rounds (l first count : ℕ) (b₀ : List ℕ) (o₀ : ℕ) (b : List ℕ) (o i : ℕ) : Type 0 where
    pub turn : Turn (leaf_node q c words w n l) first count (so_far b₀ o₀) (so_far b o) i
    pub long : length b ≡ length b₀
    pub room : o + sum_over (tree_size w n l) (first + i) (count - i) < 9223372036854775808

  pub leaf_rounds_start : (l j first count : ℕ) (b : List ℕ) (o : ℕ) → (l ≡ 0 → ⊥) → first ≡ first_of w n j → count ≡ count_of w n j → o + tree_size w n l j < 9223372036854775808 → Rounds (l - 1) first count b (o + 1) b (o + 1) 0
  leaf_rounds_start l j first count b o z p d r = record { turn = turn_start _ first count _; long = refl; room = room_start w n l j first count o z p d r }

  pub leaf_rounds_room : (l first count : ℕ) (b₀ : List ℕ) (o₀ : ℕ) (b : List ℕ) (o i : ℕ) → i < count → Rounds l first count b₀ o₀ b o i → o + tree_size w n l (first + i) < 9223372036854775808
  leaf_rounds_room l first count b₀ o₀ b o i h u = room_here w n l first count o i h u.room

  pub leaf_rounds_step : (l first count : ℕ) (b₀ : List ℕ) (o₀ : ℕ) (b : List ℕ) (o : ℕ) (b' : List ℕ) (o' i : ℕ) → i < count → Rounds l first count b₀ o₀ b o i → length b' ≡ length b → so_far b' o' ≡ leaf_node q c words w n l (first + i) (so_far b o) → Rounds l first count b₀ o₀ b' o' (i + 1)
  leaf_rounds_step l first count b₀ o₀ b o b' o' i h u s e =
      record {
        turn = turn_step _ first count _ _ _ i h u.turn e;
        long = s ∙ u.long;
        room = room_after w n l first count o o' i h u.room (subst (λ (k : Kept). k.opened ≤ o + tree_size w n l (first + i)) (sym e) (leaf_node_opened q c words w n l (first + i) (so_far b o)));
      }

  pub leaf_rounds_end : (l first count : ℕ) (b₀ : List ℕ) (o₀ : ℕ) (b : List ℕ) (o i : ℕ) → count ≤ i → Rounds l first count b₀ o₀ b o i → so_far b o ≡ in_turn (leaf_node q c words w n l) count first (so_far b₀ o₀)
  leaf_rounds_end l first count b₀ o₀ b o i h u = turn_end _ first count _ _ i h u.turn

-- ---- a loop that changes the sets, and leaves them as long: b after i turns, b₀ before

module _ (f : ℕ → List ℕ → List ℕ) (a c : ℕ) (b₀ : List ℕ) where
  pub record Turned (b : List ℕ) (i : ℕ) : Type 0 where
    pub turn : Turn f a c b₀ b i
    pub long : length b ≡ length b₀

  pub turned_start : Turned b₀ 0
  turned_start = record { turn = turn_start f a c b₀; long = refl }

  pub turned_step : (b b' : List ℕ) (i j : ℕ) → j ≡ a + i → i < c → Turned b i → length b' ≡ length b → b' ≡ f j b → Turned b' (i + 1)
  turned_step b b' i j is h u s e = record { turn = turn_step f a c _ _ _ i h u.turn (e ∙ ap (λ (x : ℕ). f x b) is); long = s ∙ u.long }

  pub turned_end : (b : List ℕ) (i : ℕ) → c ≤ i → Turned b i → b ≡ in_turn f c a b₀
  turned_end b i h u = turn_end f a c _ _ i h u.turn

-- ---- the whole sheet

module _ (q : ℕ → Spot) (c words : ℕ) (w : List ℤ) where
  whole : (n m : ℕ) → points w ≡ n → nodes w ≡ m → walk_all w n m (leaf_visit q c words w n) (leaf_take q c words w n) (so_far (none (16 * words)) 0) ≡ leaf_kept q c words w
  unfolding leaf_kept
  whole n m e f =
      ap (λ (x : ℕ). walk_all w x m (leaf_visit q c words w x) (leaf_take q c words w x) (so_far (none (16 * words)) 0)) (sym e)
      ∙ ap (λ (y : ℕ). walk_all w (points w) y (leaf_visit q c words w (points w)) (leaf_take q c words w (points w)) (so_far (none (16 * words)) 0)) (sym f)

  top_none : (n m : ℕ) → points w ≡ n → nodes w ≡ m → m ≡ 0 → so_far (none (16 * words)) 0 ≡ leaf_kept q c words w
  unfolding walk_all
  top_none n m e f z = (rw (eq-eqb m 0 z)) ∙ whole n m e f

  top_node : (n m : ℕ) → points w ≡ n → nodes w ≡ m → (m ≡ 0 → ⊥) → leaf_node q c words w n (level_of w n (m - 1)) (m - 1) (so_far (none (16 * words)) 0) ≡ leaf_kept q c words w
  unfolding walk_all leaf_node
  top_node n m e f z = (rw (ne_eqb m 0 z)) ∙ whole n m e f

  abbrev Answered : List ℕ → ℕ → Type 0
  Answered b o = (b ≡ (leaf_kept q c words w).bits) × (o ≡ (leaf_kept q c words w).opened)

  apart : (b : List ℕ) (o : ℕ) → so_far b o ≡ leaf_kept q c words w → Answered b o
  apart b o e = (ap (λ (k : Kept). k.bits) e, ap (λ (k : Kept). k.opened) e)

  -- a sheet of no node leaves the sets of none
  pub leaf_walked_none : (n m : ℕ) (b b' : List ℕ) → points w ≡ n → nodes w ≡ m → m ≡ 0 → Sets b words n → b' ≡ none (length b) → Answered b' 0
  leaf_walked_none n m b b' e f z s d = apart b' 0 (ap (λ (x : List ℕ). so_far x 0) (d ∙ ap none s.long) ∙ top_none n m e f z)

  -- any other is walked from its root; d is the number of chambers as it was read
  pub leaf_walked : (d n m : ℕ) (b b' b'' : List ℕ) (o : ℕ) → d ≡ c → points w ≡ n → nodes w ≡ m → (m ≡ 0 → ⊥) → Sets b words n → b' ≡ none (length b) → so_far b'' o ≡ leaf_node q d words w n (level_of w n (m - 1)) (m - 1) (so_far b' 0) → Answered b'' o
  leaf_walked d n m b b' b'' o h e f z s g r =
      apart b'' o
      (r ∙ ap (λ (x : ℕ). leaf_node q x words w n (level_of w n (m - 1)) (m - 1) (so_far b' 0)) h
      ∙ ap (λ (x : List ℕ). leaf_node q c words w n (level_of w n (m - 1)) (m - 1) (so_far x 0)) (g ∙ ap none s.long)
      ∙ top_node n m e f z)
