-- What the ring walk of one sheet brings about: what its answer says is so, and where it is clear no position blocks; and what it opens.
-- `Meaning` has the statements for a reader.
-- Assumes nothing.
use mathlib.Core.Path.{◌≡◌, refl, sym, ap, subst, ◌∙◌}
use mathlib.Core.Bool.{Bool, true, false, cond}
use mathlib.Core.List.{List}
use Prim.Native.Nat.{ℕ, zero, suc, ◌+◌, ◌-◌, ◌<◌, ◌≤◌}
use native.Mathlib.Omega.{arith}
use lib.Dec.{eqb, ltb}
use lib.IntN.{ℤ}
use borrow.Author.Tests.{ltb-true}
use Rattle.integers.proofs.Bools.{clash}
use Rattle.plane.specs.declared.Spot.{Spot}
use Rattle.plane.specs.Profile.{Profile, side_in}
use Rattle.plane.proofs.ProfileLaws.{Lawful, side_first, on_side, side_met}
use Rattle.sheet.specs.Layout.{points, nodes}
use Rattle.sheet.specs.Order.{order_of, rank_of, order_ok}
use Rattle.sheet.specs.Nodes.{level_of, table_ok}
use Rattle.sheet.specs.Boxes.{Below, tight_ok, tree_size}
use Rattle.sheet.specs.Places.{spot_of, box_of}
use Rattle.sheet.specs.Open.{Opens}
use Rattle.sheet.proofs.OrderLaws.{order_below, rank_below, order_rank}
use Rattle.sheet.proofs.PlaceLaws.{in_box_lem, touching, touching_below, on_sides, below_place}
use Rattle.walk.specs.declared.Hit.{Hit}
use Rattle.walk.specs.declared.Hit.TheVariants.{Clear, Point, Side}
use Rattle.walk.specs.declared.Answer.{Answer}
use Rattle.walk.specs.Walk.{walk, walk_all}
use Rattle.walk.specs.RingWalk.{clear, clear_at, meet, ring_take, enter, ring_visit, ring_node, ring_on, ring_walk}
use Rattle.walk.specs.Claims.{Blocks, BlocksBySide, Free, plus}
use Rattle.walk.proofs.WalkLaws.{Steps, Does, all_does, walk_opened, all_opened, all_shift}

-- an answer that is clear was clear before
pub record Since (s t : Answer) : Type 0 where
  pub clear_before : clear t.hit ≡ true → clear s.hit ≡ true

-- an answer that is clear says only how many nodes are opened
pub only_clear : (s : Answer) → clear s.hit ≡ true → s ≡ clear_at s.opened
only_clear s e = ap (λ (h : Hit). record { hit = h; opened = s.opened }) (go s.hit e)
  where
    go : (h : Hit) → clear h ≡ true → h ≡ Clear
    go Clear e = refl
    go (Point x) e = clash e refl
    go (Side x) e = clash e refl

module _ (φ : Profile) where
  -- what an answer says is so
  abbrev pub Truth : ℕ → List ℤ → ℕ → ℕ → Spot → Spot → Hit → Type 0
  Truth set w n m a b Clear = Unit {0}
  Truth set w n m a b (Point x) = (x.set ≡ set) × Blocks φ w n a b x.position
  Truth set w n m a b (Side x) = (x.set ≡ set) × (x.node < m) × BlocksBySide φ w n a b x.node x.side

  pub record True (set : ℕ) (w : List ℤ) (n m : ℕ) (a b : Spot) (s : Answer) : Type 0 where
    pub so : Truth set w n m a b s.hit

  -- where the answer is clear, the position at place r does not block
  pub record Passed (w : List ℤ) (n : ℕ) (a b : Spot) (s : Answer) (r : ℕ) : Type 0 where
    pub passes : clear s.hit ≡ true → φ.blocks a b (spot_of w (order_of w n r)) ≡ false

  module _ (set : ℕ) (w : List ℤ) (n m : ℕ) (a b : Spot) where
    ring_steps : Steps (True set w n m a b) Since (Passed w n a b)
    ring_steps =
        record {
          same = λ s. record { clear_before = λ e. e };
          after = λ s t u x y. record { clear_before = λ e. x.clear_before (y.clear_before e) };
          still = λ s t k x d. record { passes = λ e. d.passes (x.clear_before e) };
        }

    abbrev Rings : Answer → Answer → (ℕ → Type 0) → Type 0
    Rings = Does (True set w n m a b) Since (Passed w n a b)

    -- nothing is done after a hit
    stopped : (s : Answer) (C : ℕ → Type 0) → clear s.hit ≡ false → True set w n m a b s → Rings s s C
    stopped s C e g = record { good = g; more = record { clear_before = λ x. x }; done = λ k c. record { passes = λ x. clash x e } }

    -- and a hit deals with everything
    hit_does : (s : Answer) (h : Hit) (o : ℕ) (C : ℕ → Type 0) → clear h ≡ false → Truth set w n m a b h → Rings s (record { hit = h; opened = o }) C
    hit_does s h o C e t = record { good = record { so = t }; more = record { clear_before = λ x. clash x e }; done = λ k c. record { passes = λ x. clash x e } }

    module _ (law : Lawful φ) (ordered : order_ok w n ≡ true) (ok : table_ok w n m ≡ true) (tight : tight_ok w n m ≡ true) where
      take_does : (r : ℕ) → r < n → (s : Answer) → True set w n m a b s → Rings s (ring_take φ set w n a b r s) (λ i. i ≡ r)
      unfolding ring_take meet
      take_does r h s g = by (clear s.hit) refl
        where
          i : ℕ
          i = order_of w n r

          test : (t : Bool) → φ.blocks a b (spot_of w i) ≡ t → Rings s (cond t (record { hit = Point (record { set = set; position = i }); opened = s.opened }) s) (λ k. k ≡ r)
          test true e = hit_does s _ _ _ refl (refl, record { below = order_below w n ordered r h; blocking = e })
          test false e =
              record {
                good = g;
                more = record { clear_before = λ x. x };
                done = λ k c. subst (Passed w n a b s) (sym c) (record { passes = λ x. e });
              }

          by : (t : Bool) → clear s.hit ≡ t → Rings s (cond t (meet φ set w a b i s) s) (λ k. k ≡ r)
          by true e = test (φ.blocks a b (spot_of w i)) refl
          by false e = stopped s _ e g

      -- where a side lies strictly inside, a position on it blocks
      side_blocks : (j : ℕ) → j < m → side_in φ a b (box_of w n j) < 4 → BlocksBySide φ w n a b j (side_in φ a b (box_of w n j))
      side_blocks j h q =
          let l = level_of w n j in
          let s = side_in φ a b (box_of w n j) in
          let k = touching w n m ok tight l j h refl s in
          let u = touching_below w n m ok tight l j h refl s in
          let on = on_sides w n m ok tight l j h refl in
          record {
            first = side_first φ a b (box_of w n j) q;
            place = k;
            under = u;
            on_side = on_side (box_of w n j) _ on s q;
            there = record { below = order_below w n ordered k (below_place w n m ok tight l j h refl k u); blocking = side_met φ law a b (box_of w n j) _ on q };
          }

      visit_does : (l j : ℕ) → j < m → level_of w n j ≡ l → (go : Answer → Answer) → ((s : Answer) → True set w n m a b s → Rings s (go s) (Below w n l j)) → (s : Answer) → True set w n m a b s → Rings s (ring_visit φ set w n a b j go s) (Below w n l j)
      unfolding ring_visit enter
      visit_does l j h e go does s g = by (clear s.hit) refl
        where
          counted : Answer
          counted = record { hit = s.hit; opened = s.opened + 1 }

          side : Answer
          side = record { hit = Side (record { set = set; side = side_in φ a b (box_of w n j); node = j }); opened = s.opened }

          inner : (t : Bool) → ltb (side_in φ a b (box_of w n j)) 4 ≡ t → Rings s (cond t side (go counted)) (Below w n l j)
          inner true q = hit_does s _ _ _ refl (refl, h, side_blocks j h (ltb-true (side_in φ a b (box_of w n j)) 4 q))
          inner false q = let d = does counted (record { so = g.so }) in record { good = d.good; more = record { clear_before = λ x. d.more.clear_before x }; done = d.done }

          outer : (t : Bool) → φ.far a b (box_of w n j) ≡ t → Rings s (cond t s (cond (ltb (side_in φ a b (box_of w n j)) 4) side (go counted))) (Below w n l j)
          outer true f =
              record {
                good = g;
                more = record { clear_before = λ x. x };
                done = λ k c. record { passes = λ x. law.far_clear a b (box_of w n j) (spot_of w (order_of w n k)) f (in_box_lem w n m ok tight l j h e k c) };
              }
          outer false f = inner (ltb (side_in φ a b (box_of w n j)) 4) refl

          by : (t : Bool) → clear s.hit ≡ t → Rings s (cond t (enter φ set w n a b j go s) s) (Below w n l j)
          by true c = outer (φ.far a b (box_of w n j)) refl
          by false c = stopped s _ c g

      pub ring_does : (m ≡ 0 → n ≡ 0) → (s : Answer) → True set w n m a b s → Rings s (walk_all w n m (ring_visit φ set w n a b) (ring_take φ set w n a b) s) (λ r. r < n)
      ring_does z = all_does (True set w n m a b) Since (Passed w n a b) ring_steps w n m ok (ring_visit φ set w n a b) (ring_take φ set w n a b) take_does visit_does z

  -- ---- nodes opened

  take_opened : (set : ℕ) (w : List ℤ) (n : ℕ) (a b : Spot) (r : ℕ) (s : Answer) → (ring_take φ set w n a b r s).opened ≡ s.opened
  unfolding ring_take meet
  take_opened set w n a b r s = go (clear s.hit) (φ.blocks a b (spot_of w (order_of w n r)))
    where
      go : (c t : Bool) → (cond c (cond t (record { hit = Point (record { set = set; position = order_of w n r }); opened = s.opened }) s) s).opened ≡ s.opened
      go true true = refl
      go true false = refl
      go false t = refl

  visit_opened : (set : ℕ) (w : List ℤ) (n : ℕ) (a b : Spot) (j c : ℕ) (go : Answer → Answer) → ((s : Answer) → (go s).opened ≤ s.opened + c) → (s : Answer) → (ring_visit φ set w n a b j go s).opened ≤ s.opened + suc c
  unfolding ring_visit enter
  visit_opened set w n a b j c go h s = by (clear s.hit) (φ.far a b (box_of w n j)) (ltb (side_in φ a b (box_of w n j)) 4)
    where
      by : (x y z : Bool) → (cond x (cond y s (cond z (record { hit = Side (record { set = set; side = side_in φ a b (box_of w n j); node = j }); opened = s.opened }) (go (record { hit = s.hit; opened = s.opened + 1 })))) s).opened ≤ s.opened + suc c
      by true true z = omega arith
      by true false true = omega arith
      by true false false = omega (arith, h (record { hit = s.hit; opened = s.opened + 1 }))
      by false y z = omega arith

  -- from node j down at most the nodes from there down are opened: what keeps a count in its range
  pub ring_node_opened : (set : ℕ) (w : List ℤ) (n : ℕ) (a b : Spot) (l j : ℕ) (s : Answer) → (ring_node φ set w n a b l j s).opened ≤ s.opened + tree_size w n l j
  unfolding ring_node
  ring_node_opened set w n a b = walk_opened (λ (s : Answer). s.opened) w n (ring_visit φ set w n a b) (ring_take φ set w n a b) (take_opened set w n a b) (visit_opened set w n a b)

  -- ---- nothing is done after a hit, and nodes opened before are added

  pub node_stops : (set : ℕ) (w : List ℤ) (n : ℕ) (a b : Spot) (l j : ℕ) (s : Answer) → clear s.hit ≡ false → ring_node φ set w n a b l j s ≡ s
  unfolding ring_node walk ring_visit
  node_stops set w n a b zero j s e = rw e
  node_stops set w n a b (suc l) j s e = rw e

  pub on_stops : (set : ℕ) (w : List ℤ) (a b : Spot) (s : Answer) → clear s.hit ≡ false → ring_on φ set w a b s ≡ s
  unfolding ring_on walk_all ring_node
  on_stops set w a b s e = go (eqb (nodes w) 0)
    where
      go : (t : Bool) → cond t s (ring_node φ set w (points w) a b (level_of w (points w) (nodes w - 1)) (nodes w - 1) s) ≡ s
      go true = refl
      go false = node_stops set w (points w) a b (level_of w (points w) (nodes w - 1)) (nodes w - 1) s e

  take_plus : (c set : ℕ) (w : List ℤ) (n : ℕ) (a b : Spot) (r : ℕ) (s : Answer) → ring_take φ set w n a b r (plus c s) ≡ plus c (ring_take φ set w n a b r s)
  unfolding ring_take meet
  take_plus c set w n a b r s = go (clear s.hit) (φ.blocks a b (spot_of w (order_of w n r)))
    where
      go : (x y : Bool) → cond x (cond y (record { hit = Point (record { set = set; position = order_of w n r }); opened = c + s.opened }) (plus c s)) (plus c s) ≡ plus c (cond x (cond y (record { hit = Point (record { set = set; position = order_of w n r }); opened = s.opened }) s) s)
      go true true = refl
      go true false = refl
      go false y = refl

  visit_plus : (c set : ℕ) (w : List ℤ) (n : ℕ) (a b : Spot) (j : ℕ) (go : Answer → Answer) → ((s : Answer) → go (plus c s) ≡ plus c (go s)) → (s : Answer) → ring_visit φ set w n a b j go (plus c s) ≡ plus c (ring_visit φ set w n a b j go s)
  unfolding ring_visit enter
  visit_plus c set w n a b j go h s = by (clear s.hit) (φ.far a b (box_of w n j)) (ltb (side_in φ a b (box_of w n j)) 4)
    where
      one : go (record { hit = s.hit; opened = c + s.opened + 1 }) ≡ plus c (go (record { hit = s.hit; opened = s.opened + 1 }))
      one = let e : c + s.opened + 1 ≡ c + (s.opened + 1) = omega arith in ap (λ (o : ℕ). go (record { hit = s.hit; opened = o })) e ∙ h (record { hit = s.hit; opened = s.opened + 1 })

      by : (x y z : Bool) → cond x (cond y (plus c s) (cond z (record { hit = Side (record { set = set; side = side_in φ a b (box_of w n j); node = j }); opened = c + s.opened }) (go (record { hit = s.hit; opened = c + s.opened + 1 })))) (plus c s) ≡ plus c (cond x (cond y s (cond z (record { hit = Side (record { set = set; side = side_in φ a b (box_of w n j); node = j }); opened = s.opened }) (go (record { hit = s.hit; opened = s.opened + 1 })))) s)
      by true true z = refl
      by true false true = refl
      by true false false = one
      by false y z = refl

  -- a walk that goes on from c nodes opened is the walk by itself, with c nodes more
  pub on_adds : (set : ℕ) (w : List ℤ) (a b : Spot) (c : ℕ) → ring_on φ set w a b (clear_at c) ≡ plus c (ring_walk φ set w a b)
  unfolding ring_on ring_walk
  on_adds set w a b c =
      let e : c + 0 ≡ c = omega arith in
      ap (λ (o : ℕ). ring_on φ set w a b (clear_at o)) (sym e)
      ∙ all_shift (plus c) w (points w) (ring_visit φ set w (points w) a b) (ring_take φ set w (points w) a b) (take_plus c set w (points w) a b) (visit_plus c set w (points w) a b) (nodes w) (clear_at 0)

  -- ---- the sheet

  module _ (law : Lawful φ) (set : ℕ) (w : List ℤ) (o : Opens w (points w) (nodes w)) (a b : Spot) where
    whole : Does (True set w (points w) (nodes w) a b) Since (Passed w (points w) a b) (clear_at 0) (ring_walk φ set w a b) (λ r. r < points w)
    unfolding ring_walk ring_on
    whole =
        ring_does set w (points w) (nodes w) a b law o.ordered o.table o.tight o.empty (clear_at 0) (record { so = tt })

    -- what the answer says is so
    pub ring_truth : Truth set w (points w) (nodes w) a b (ring_walk φ set w a b).hit
    ring_truth = whole.good.so

    -- Where the walk is clear, no position blocks.
    pub clear_free : clear (ring_walk φ set w a b).hit ≡ true → Free φ w (points w) a b
    clear_free c i h =
        let r = rank_of w (points w) i in
        let e = order_rank w (points w) o.ordered i h in
        let p = whole.done r (rank_below w (points w) o.ordered i h) in
        subst (λ (x : ℕ). φ.blocks a b (spot_of w x) ≡ false) e (p.passes c)

    -- And where none blocks, it is clear.
    pub free_clear : Free φ w (points w) a b → clear (ring_walk φ set w a b).hit ≡ true
    free_clear f = go (ring_walk φ set w a b).hit ring_truth
      where
        no : (i : ℕ) → Blocks φ w (points w) a b i → false ≡ true
        no i x = clash x.blocking (f i x.below)

        go : (h : Hit) → Truth set w (points w) (nodes w) a b h → clear h ≡ true
        go Clear t = refl
        go (Point x) t = no x.position t.1
        go (Side x) t = no _ t.2.there

  -- At most m nodes are opened.
  pub opened_by : (set : ℕ) (w : List ℤ) (n m : ℕ) (a b : Spot) → points w ≡ n → nodes w ≡ m → table_ok w n m ≡ true → (ring_walk φ set w a b).opened ≤ m
  unfolding ring_walk ring_on
  opened_by set w n m a b e f ok =
      let t = subst (λ (x : ℕ). table_ok w x (nodes w) ≡ true) (sym e) (subst (λ (y : ℕ). table_ok w n y ≡ true) (sym f) ok) in
      let x = all_opened (λ (s : Answer). s.opened) w (points w) (ring_visit φ set w (points w) a b) (ring_take φ set w (points w) a b) (take_opened set w (points w) a b) (visit_opened set w (points w) a b) (nodes w) t (clear_at 0) in
      omega arith

  pub ring_opened : (set : ℕ) (w : List ℤ) → Opens w (points w) (nodes w) → (a b : Spot) → (ring_walk φ set w a b).opened ≤ nodes w
  ring_opened set w o a b = opened_by set w (points w) (nodes w) a b refl refl o.table
