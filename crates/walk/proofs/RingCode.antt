-- What the code of the ring walk goes by: one place of a leaf, one node, and the loop over what a node covers.
-- Assumes nothing.
use mathlib.Core.Path.{◌≡◌, refl, sym, ap, subst, ◌∙◌}
use mathlib.Core.Bool.{true, false}
use mathlib.Core.List.{List}
use Prim.Native.Nat.{ℕ, zero, suc, ◌+◌, ◌-◌, ◌<◌, ◌≤◌}
use native.Mathlib.Omega.{arith}
use native.Mathlib.Nat.{pos_of_ne-zero}
use lib.Dec.{ltb}
use lib.IntN.{ℤ}
use Rattle.plane.specs.declared.Spot.{Spot}
use Rattle.plane.specs.Profile.{Profile, side_in}
use Rattle.sheet.specs.Order.{order_of}
use Rattle.sheet.specs.Nodes.{level_of, first_of, count_of}
use Rattle.sheet.specs.Boxes.{sum_over, tree_size}
use Rattle.sheet.specs.Places.{spot_of, box_of}
use Rattle.walk.specs.declared.Hit.TheVariants.{Point, Side}
use Rattle.walk.specs.declared.Answer.{Answer}
use borrow.Author.Tests.{eq-eqb, ne_eqb, lt-ltb}
use Rattle.sheet.specs.Layout.{points, nodes}
use Rattle.sheet.specs.Open.{Opens}
use Rattle.walk.specs.Walk.{in_turn, walk, walk_all}
use Rattle.walk.specs.RingWalk.{clear, clear_at, meet, ring_take, enter, ring_visit, ring_node, ring_on, ring_walk, pair_walk_by}
use Rattle.walk.proofs.RoomLaws.{room_start, room_here, room_after}
use Rattle.walk.proofs.TurnLaws.{Turn, turn_start, turn_step, turn_end, turn_stop}
use Rattle.walk.proofs.RingLaws.{node_stops, on_stops, ring_node_opened, opened_by, only_clear}

module _ (φ : Profile) where
  module _ (set : ℕ) (w : List ℤ) (n : ℕ) (a b : Spot) where
    -- ---- a place of a leaf

    abbrev pub Leaf : ℕ → ℕ → ℕ → ℕ → Type 0
    Leaf first count o i = Turn (ring_take φ set w n a b) first count (clear_at o) (clear_at o) i

    pub leaf_passes : (first count o i k : ℕ) → i < count → k ≡ order_of w n (first + i) → φ.blocks a b (spot_of w k) ≡ false → Leaf first count o i → Leaf first count o (i + 1)
    unfolding ring_take meet
    leaf_passes first count o i k h e t u = turn_step _ first count _ _ _ i h u (rw (← e, t))

    pub leaf_hit : (first count o i k : ℕ) → i < count → k ≡ order_of w n (first + i) → φ.blocks a b (spot_of w k) ≡ true → Leaf first count o i
        → ◌≡◌ {A = Answer} (record { hit = Point (record { set = set; position = k }); opened = o }) (in_turn (ring_take φ set w n a b) count first (clear_at o))
    unfolding ring_take meet
    leaf_hit first count o i k h e t u =
        turn_stop (ring_take φ set w n a b) first count (clear_at o) (record { hit = Point (record { set = set; position = k }); opened = o }) (i + 1) (λ r. refl)
        (turn_step (ring_take φ set w n a b) first count (clear_at o) (clear_at o) (record { hit = Point (record { set = set; position = k }); opened = o }) i h u (rw (← e, t)))

    -- ---- a node

    pub node_far : (l j o : ℕ) → φ.far a b (box_of w n j) ≡ true → clear_at o ≡ ring_node φ set w n a b l j (clear_at o)
    unfolding ring_node walk ring_visit enter
    node_far zero j o e = rw e
    node_far (suc l) j o e = rw e

    named : (l j o : ℕ) → φ.far a b (box_of w n j) ≡ false → ltb (side_in φ a b (box_of w n j)) 4 ≡ true → ◌≡◌ {A = Answer} (record { hit = Side (record { set = set; side = side_in φ a b (box_of w n j); node = j }); opened = o }) (ring_node φ set w n a b l j (clear_at o))
    unfolding ring_node walk ring_visit enter
    named zero j o e f = rw (e, f)
    named (suc l) j o e f = rw (e, f)

    pub node_side : (l j o s : ℕ) → φ.far a b (box_of w n j) ≡ false → s ≡ side_in φ a b (box_of w n j) → s < 4 → ◌≡◌ {A = Answer} (record { hit = Side (record { set = set; side = s; node = j }); opened = o }) (ring_node φ set w n a b l j (clear_at o))
    node_side l j o s e p h = rw p (named l j o e (subst (λ (k : ℕ). ltb k 4 ≡ true) p (lt-ltb s 4 h)))

    pub node_leaf : (l j o first count : ℕ) → l ≡ 0 → first ≡ first_of w n j → count ≡ count_of w n j → φ.far a b (box_of w n j) ≡ false → ltb (side_in φ a b (box_of w n j)) 4 ≡ false → in_turn (ring_take φ set w n a b) count first (clear_at (o + 1)) ≡ ring_node φ set w n a b l j (clear_at o)
    unfolding ring_node walk ring_visit enter
    node_leaf l j o first count z p q e f = rw (z, p, q, e, f)

    node_down : (l j o first count : ℕ) → first ≡ first_of w n j → count ≡ count_of w n j → φ.far a b (box_of w n j) ≡ false → ltb (side_in φ a b (box_of w n j)) 4 ≡ false → in_turn (ring_node φ set w n a b l) count first (clear_at (o + 1)) ≡ ring_node φ set w n a b (suc l) j (clear_at o)
    unfolding ring_node walk ring_visit enter
    node_down l j o first count p q e f = rw (p, q, e, f)

    pub node_above : (l j o first count : ℕ) → (l ≡ 0 → ⊥) → first ≡ first_of w n j → count ≡ count_of w n j → φ.far a b (box_of w n j) ≡ false → ltb (side_in φ a b (box_of w n j)) 4 ≡ false → in_turn (ring_node φ set w n a b (l - 1)) count first (clear_at (o + 1)) ≡ ring_node φ set w n a b l j (clear_at o)
    node_above l j o first count z p q e f =
        let s : suc (l - 1) ≡ l = omega (arith, pos_of_ne-zero z) in
        node_down (l - 1) j o first count p q e f ∙ ap (λ (k : ℕ). ring_node φ set w n a b k j (clear_at o)) s

    -- ---- the loop over what a node covers: o nodes are opened after i of them, o₀ before, and there is room to count the rest

    pub record Rounds (l first count o₀ o i : ℕ) : Type 0 where
      pub turn : Turn (ring_node φ set w n a b l) first count (clear_at o₀) (clear_at o) i
      pub room : o + sum_over (tree_size w n l) (first + i) (count - i) < 9223372036854775808

    pub rounds_start : (l j first count o : ℕ) → (l ≡ 0 → ⊥) → first ≡ first_of w n j → count ≡ count_of w n j → o + tree_size w n l j < 9223372036854775808 → Rounds (l - 1) first count (o + 1) (o + 1) 0
    rounds_start l j first count o z p q r = record { turn = turn_start _ first count _; room = room_start w n l j first count o z p q r }

    pub rounds_room : (l first count o₀ o i : ℕ) → i < count → Rounds l first count o₀ o i → o + tree_size w n l (first + i) < 9223372036854775808
    rounds_room l first count o₀ o i h u = room_here w n l first count o i h u.room

    pub rounds_step : (l first count o₀ o i : ℕ) (r : Answer) → i < count → Rounds l first count o₀ o i → r ≡ ring_node φ set w n a b l (first + i) (clear_at o) → clear r.hit ≡ true → Rounds l first count o₀ r.opened (i + 1)
    rounds_step l first count o₀ o i r h u e c =
        let x : r.opened ≤ o + tree_size w n l (first + i) = subst (λ (s : Answer). s.opened ≤ o + tree_size w n l (first + i)) (sym e) (ring_node_opened φ set w n a b l (first + i) (clear_at o)) in
        record {
          turn = turn_step _ first count _ _ _ i h u.turn (sym (only_clear r c) ∙ e);
          room = room_after w n l first count o r.opened i h u.room x;
        }

    pub rounds_hit : (l first count o₀ o i : ℕ) (r : Answer) → i < count → Rounds l first count o₀ o i → r ≡ ring_node φ set w n a b l (first + i) (clear_at o) → clear r.hit ≡ false → r ≡ in_turn (ring_node φ set w n a b l) count first (clear_at o₀)
    rounds_hit l first count o₀ o i r h u e c =
        turn_stop (ring_node φ set w n a b l) first count (clear_at o₀) r (i + 1) (λ k. node_stops φ set w n a b l k r c) (turn_step _ first count _ _ _ i h u.turn e)

    pub rounds_end : (l first count o₀ o i : ℕ) → count ≤ i → Rounds l first count o₀ o i → clear_at o ≡ in_turn (ring_node φ set w n a b l) count first (clear_at o₀)
    rounds_end l first count o₀ o i h u = turn_end _ first count _ _ i h u.turn

  -- ---- the whole sheet

  module _ (set : ℕ) (w : List ℤ) (a b : Spot) (o : ℕ) where
    whole : (n m : ℕ) → points w ≡ n → nodes w ≡ m → walk_all w n m (ring_visit φ set w n a b) (ring_take φ set w n a b) (clear_at o) ≡ ring_on φ set w a b (clear_at o)
    unfolding ring_on
    whole n m e f =
        ap (λ (x : ℕ). walk_all w x m (ring_visit φ set w x a b) (ring_take φ set w x a b) (clear_at o)) (sym e)
        ∙ ap (λ (y : ℕ). walk_all w (points w) y (ring_visit φ set w (points w) a b) (ring_take φ set w (points w) a b) (clear_at o)) (sym f)

    pub top_none : (n m : ℕ) → points w ≡ n → nodes w ≡ m → m ≡ 0 → clear_at o ≡ ring_on φ set w a b (clear_at o)
    unfolding walk_all
    top_none n m e f z = (rw (eq-eqb m 0 z)) ∙ whole n m e f

    pub top_node : (n m : ℕ) → points w ≡ n → nodes w ≡ m → (m ≡ 0 → ⊥) → ring_node φ set w n a b (level_of w n (m - 1)) (m - 1) (clear_at o) ≡ ring_on φ set w a b (clear_at o)
    unfolding walk_all ring_node
    top_node n m e f z = (rw (ne_eqb m 0 z)) ∙ whole n m e f

  -- ---- two sheets

  module _ (P Q : List ℤ) (j i : ℕ) (a b : Spot) (ea : a ≡ spot_of Q j) (eb : b ≡ spot_of P i) (r : Answer) (er : r ≡ ring_on φ 1 Q a b (clear_at 0)) where
    first_is : r ≡ ring_walk φ 1 Q (spot_of Q j) (spot_of P i)
    unfolding ring_walk
    first_is = er ∙ ap (λ (x : Spot). ring_on φ 1 Q x b (clear_at 0)) ea ∙ ap (λ (y : Spot). ring_on φ 1 Q (spot_of Q j) y (clear_at 0)) eb

    pub first_opened : (n m : ℕ) → Opens Q n m → r.opened ≤ 1000000
    unfolding ring_walk
    first_opened n m o =
        let t = opened_by φ 1 Q n m (spot_of Q j) (spot_of P i) o.n_is o.m_is o.table in
        let x : r.opened ≤ m = subst (λ (s : Answer). s.opened ≤ m) (sym first_is) t in
        omega (arith, o.m_le)

    pub pair_stops : clear r.hit ≡ false → r ≡ pair_walk_by φ P Q j i
    unfolding pair_walk_by
    pair_stops c = sym (on_stops φ 0 P (spot_of Q j) (spot_of P i) r c) ∙ ap (ring_on φ 0 P (spot_of Q j) (spot_of P i)) first_is

    pub pair_goes_on : (s : Answer) → clear r.hit ≡ true → s ≡ ring_on φ 0 P a b (clear_at r.opened) → s ≡ pair_walk_by φ P Q j i
    unfolding pair_walk_by
    pair_goes_on s c e =
        e ∙ ap (λ (x : Spot). ring_on φ 0 P x b (clear_at r.opened)) ea ∙ ap (λ (y : Spot). ring_on φ 0 P (spot_of Q j) y (clear_at r.opened)) eb
        ∙ ap (ring_on φ 0 P (spot_of Q j) (spot_of P i)) (sym (only_clear r c) ∙ first_is)
