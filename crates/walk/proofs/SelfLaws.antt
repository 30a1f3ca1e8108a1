-- The walks of a self join. A kept point at q's own place skips nothing, so that a filter walk that passes over q keeps what one that meets q keeps, but for q, and
-- opens the same nodes.
--
--     pass_keeps_lem     what the walk that passes over j keeps: what the filter walk for j's place keeps, without j
--     pass_opened_lem    and it opens the same nodes
--     self_walked    a pair of the self join: a kept position of higher id, whose one ring walk is clear
-- Assumes nothing.
use mathlib.Core.Path.{◌≡◌, refl, sym, ap, ap₂, ◌∙◌}
use mathlib.Core.Bool.{Bool, true, false, cond, not, ◌&&◌, ◌||◌}
use mathlib.Core.Logic.{⊎_elim}
use mathlib.Core.List.{List}
use Prim.Native.Nat.{ℕ, zero, suc, ◌+◌, ◌-◌, ◌*◌, ◌<◌, ◌≤◌}
use native.Mathlib.Omega.{arith}
use native.Mathlib.Nat.{pos_of_ne-zero}
use native.Mathlib.Decide.{ℕ_discrete}
use lib.Dec.{eqb, ltb}
use lib.IntN.{ℤ}
use lib.ListN.{length}
use lib.Signed.{le_z}
use borrow.Author.Tests.{eqb-false, eq-eqb, ne_eqb, ltb-true}
use Rattle.integers.proofs.Order.{zl}
use Rattle.integers.proofs.Bools.{and_left, and_right, and_both, decide, test_iff}
use Rattle.plane.specs.declared.Spot.{Spot}
use Rattle.plane.specs.declared.Boxed.{Boxed}
use Rattle.plane.specs.Rule.{behind, spot, same_spot, in_box, drops, drops_box, box_at}
use Rattle.plane.specs.Profile.{Profile, profile_of}
use Rattle.plane.specs.Point.{id_at, spot_at}
use Rattle.plane.proofs.RuleLaws.{point_box}
use Rattle.plane.proofs.ProfileLaws.{profile_lawful}
use Rattle.sheet.specs.Layout.{points, nodes}
use Rattle.sheet.specs.Order.{order_of, order_ok}
use Rattle.sheet.specs.Nodes.{level_of, first_of, count_of, table_ok}
use Rattle.sheet.specs.Places.{spot_of, box_of, points_of}
use Rattle.sheet.specs.Open.{Opens}
use Rattle.sheet.proofs.OrderLaws.{order_below}
use Rattle.sheet.proofs.PointsLaws.{spot_of_lem}
use Rattle.sheet.proofs.TreeLaws.{child, leaf}
use Rattle.bits.specs.Set.{kept, with, none, some}
use Rattle.bits.proofs.SetLaws.{with_length, kept_same, kept_other, none_kept, none_length}
use Rattle.list.specs.RingList.{unblocked, ring_pair_by}
use Rattle.list.specs.Terms.{alone_by, pair_for}
use Rattle.walk.specs.Walk.{in_turn, walk, walk_all}
use Rattle.walk.specs.FilterWalk.{Kept, so_far, dropped, shut, consider, filter_place, filter_take, filter_visit, filter_kept, filter_keeps, keeps_by, keeps_opened}
use Rattle.walk.specs.RingWalk.{clear, ring_walk}
use Rattle.walk.specs.SelfWalk.{pass_take, pass_kept, pass_keeps, pass_keeps_by, pass_opened}
use Rattle.walk.proofs.Meaning.{keeps_partner, walk_clear_iff}

-- ---- two walks side by side: what every step keeps true of both states, the walks keep true

module _ {S T : Type 0} (R : S → T → Type 0) where
  turn_both : (f : ℕ → S → S) (g : ℕ → T → T) (c a : ℕ) → ((i : ℕ) → a ≤ i → i < a + c → (s : S) (t : T) → R s t → R (f i s) (g i t)) → (s : S) (t : T) → R s t → R (in_turn f c a s) (in_turn g c a t)
  unfolding in_turn
  turn_both f g zero a one s t r = r
  turn_both f g (suc c) a one s t r = turn_both f g c (a + 1) (λ i l u. one i (omega arith) (omega arith)) (f a s) (g a t) (one a (omega arith) (omega arith) s t r)

  module _ (w : List ℤ) (n m : ℕ) (ok : table_ok w n m ≡ true) (visit : ℕ → (S → S) → S → S) (take : ℕ → S → S) (visit' : ℕ → (T → T) → T → T) (take' : ℕ → T → T)
      (take-both : (k : ℕ) → k < n → (s : S) (t : T) → R s t → R (take k s) (take' k t))
      (visit-both : (j : ℕ) (go : S → S) (go' : T → T) → ((s : S) (t : T) → R s t → R (go s) (go' t)) → (s : S) (t : T) → R s t → R (visit j go s) (visit' j go' t)) where
    walk_both : (l j : ℕ) → j < m → level_of w n j ≡ l → (s : S) (t : T) → R s t → R (walk w n visit take l j s) (walk w n visit' take' l j t)
    unfolding walk
    walk_both zero j h e s t r =
        visit-both j _ _ (turn_both take take' (count_of w n j) (first_of w n j) (λ i a b. take-both i (leaf w n m ok j h e i b))) s t r
    walk_both (suc l) j h e s t r =
        visit-both j _ _
        (turn_both (walk w n visit take l) (walk w n visit' take' l) (count_of w n j) (first_of w n j)
        (λ i a b. let x = child w n m ok j l h e i a b in walk_both l i (omega (arith, x.1)) x.0))
        s t r

    all_both : (s : S) (t : T) → R s t → R (walk_all w n m visit take s) (walk_all w n m visit' take' t)
    unfolding walk_all
    all_both s t r = go (eqb m 0) refl
      where
        go : (b : Bool) → eqb m 0 ≡ b → R (cond b s (walk w n visit take (level_of w n (m - 1)) (m - 1) s)) (cond b t (walk w n visit' take' (level_of w n (m - 1)) (m - 1) t))
        go true z = r
        go false z =
            let here : 0 < m = pos_of_ne-zero (eqb-false m 0 z) in
            walk_both (level_of w n (m - 1)) (m - 1) (omega arith) refl s t r

-- ---- a kept point at q's place skips nothing

box_own : (q : Spot) (o : Boxed) → drops_box q q o ≡ false
unfolding drops_box same_spot
box_own q o =
    let x : le_z q.x q.x ≡ true = omega zl in
    let y : le_z q.y q.y ≡ true = omega zl in
    let all = behind q q (spot o.xmin o.ymin) && behind q q (spot o.xmin o.ymax) && behind q q (spot o.xmax o.ymin) && behind q q (spot o.xmax o.ymax) in
    rw (x, y) (never all (not (in_box o q)))
  where
    never : (a b : Bool) → (a && false && b) ≡ false
    never true b = refl
    never false b = refl

point_own : (q z : Spot) → drops q q z ≡ false
point_own q z = sym (point_box q q z) ∙ box_own q (box_at z)

-- kept ones at which the test does not hold may differ
some_same : (a b : List ℕ) (q : ℕ → Bool) → ((p : ℕ) → (kept a p && q p) ≡ (kept b p && q p)) → (f i : ℕ) → some a q f i ≡ some b q f i
unfolding some
some_same a b q e zero i = refl
some_same a b q e (suc f) i = ap₂ (λ (x y : Bool). x || y) (e i) (some_same a b q e f (i + 1))

-- ---- the walk that meets j and the one that passes over it

-- the same nodes opened, the same kept but for j, which the second does not keep
pub record Beside (words j : ℕ) (k k' : Kept) : Type 0 where
  pub long : length k.bits ≡ words
  pub long' : length k'.bits ≡ words
  pub same : (i : ℕ) → (i ≡ j → ⊥) → kept k.bits i ≡ kept k'.bits i
  pub out : kept k'.bits j ≡ false
  pub count : k.opened ≡ k'.opened

module _ (words : ℕ) (w : List ℤ) (n m j : ℕ) (enough : n ≤ 64 * words) (ordered : order_ok w n ≡ true) where
  -- no test of a kept one tells them apart
  unseen : (q : ℕ → Bool) → q j ≡ false → (k k' : Kept) → Beside words j k k' → some k.bits q n 0 ≡ some k'.bits q n 0
  unseen q e k k' r = some_same k.bits k'.bits q (λ p. go p (ℕ_discrete p j)) n 0
    where
      never : (a b : Bool) → b ≡ false → (a && b) ≡ false
      never true b e = e
      never false b e = refl

      go : (p : ℕ) → Dec (p ≡ j) → (kept k.bits p && q p) ≡ (kept k'.bits p && q p)
      go p (yes x) = let z : q p ≡ false = ap q x ∙ e in never (kept k.bits p) (q p) z ∙ sym (never (kept k'.bits p) (q p) z)
      go p (no x) = ap (λ (y : Bool). y && q p) (r.same p x)

  take_beside : (r : ℕ) → r < n → (k k' : Kept) → Beside words j k k' → Beside words j (filter_take w n (spot_of w j) r k) (pass_take w n j r k')
  unfolding filter_take filter_place consider pass_take
  take_beside r h k k' b = at (ℕ_discrete i j)
    where
      i : ℕ
      i = order_of w n r

      q : Spot
      q = spot_of w j

      fits : i < 64 * length k.bits
      fits = omega (arith, order_below w n ordered r h, b.long)

      fits' : i < 64 * length k'.bits
      fits' = omega (arith, order_below w n ordered r h, b.long')

      -- j itself
      met : (x : i ≡ j) (t : Bool) → Beside words j (so_far (cond t k.bits (with k.bits i)) k.opened) k'
      met x true = record { long = b.long; long' = b.long'; same = b.same; out = b.out; count = b.count }
      met x false =
          record {
            long = with_length k.bits i ∙ b.long;
            long' = b.long';
            same = λ p d. kept_other k.bits i p fits (λ e. d (e ∙ x)) ∙ b.same p d;
            out = b.out;
            count = b.count;
          }

      -- another
      other : (x : i ≡ j → ⊥) (t : Bool) → Beside words j (so_far (cond t k.bits (with k.bits i)) k.opened) (so_far (cond t k'.bits (with k'.bits i)) k'.opened)
      other x true = record { long = b.long; long' = b.long'; same = b.same; out = b.out; count = b.count }
      other x false =
          record {
            long = with_length k.bits i ∙ b.long;
            long' = with_length k'.bits i ∙ b.long';
            same = λ p d. go p d (ℕ_discrete p i);
            out = kept_other k'.bits i j fits' (λ e. x (sym e)) ∙ b.out;
            count = b.count;
          }
        where
          go : (p : ℕ) → (p ≡ j → ⊥) → Dec (p ≡ i) → kept (with k.bits i) p ≡ kept (with k'.bits i) p
          go p d (yes e) = ap (kept (with k.bits i)) e ∙ kept_same k.bits i fits ∙ sym (kept_same k'.bits i fits') ∙ ap (kept (with k'.bits i)) (sym e)
          go p d (no e) = kept_other k.bits i p fits e ∙ b.same p d ∙ sym (kept_other k'.bits i p fits' e)

      alike : dropped w n q i k.bits ≡ dropped w n q i k'.bits
      alike = unfold dropped in unseen (λ p. drops q (spot_of w p) (spot_of w i)) (point_own q (spot_of w i)) k k' b

      at : Dec (i ≡ j) → Beside words j (so_far (cond (dropped w n q i k.bits) k.bits (with k.bits i)) k.opened) (cond (eqb i j) k' (so_far (cond (dropped w n q i k'.bits) k'.bits (with k'.bits i)) k'.opened))
      at (yes x) = rw (eq-eqb i j x) (met x (dropped w n q i k.bits))
      at (no x) = rw (ne_eqb i j x, ← alike) (other x (dropped w n q i k.bits))

  visit_beside : (v : ℕ) (go go' : Kept → Kept) → ((k k' : Kept) → Beside words j k k' → Beside words j (go k) (go' k')) → (k k' : Kept) → Beside words j k k'
      → Beside words j (filter_visit w n (spot_of w j) v go k) (filter_visit w n (spot_of w j) v go' k')
  unfolding filter_visit
  visit_beside v go go' does k k' b = rw (← alike) (by (shut w n (spot_of w j) v k.bits))
    where
      alike : shut w n (spot_of w j) v k.bits ≡ shut w n (spot_of w j) v k'.bits
      alike = unfold shut in unseen (λ p. drops_box (spot_of w j) (spot_of w p) (box_of w n v)) (box_own (spot_of w j) (box_of w n v)) k k' b

      by : (t : Bool) → Beside words j (cond t k (go (so_far k.bits (k.opened + 1)))) (cond t k' (go' (so_far k'.bits (k'.opened + 1))))
      by true = b
      by false =
          does (so_far k.bits (k.opened + 1)) (so_far k'.bits (k'.opened + 1))
          (record { long = b.long; long' = b.long'; same = b.same; out = b.out; count = ap (λ (x : ℕ). x + 1) b.count })

module _ (words : ℕ) (w : List ℤ) (opens : Opens w (points w) (nodes w)) (enough : points w ≤ 64 * words) (j : ℕ) where
  beside : Beside words j (filter_kept words w (spot_of w j)) (pass_kept words w j)
  unfolding filter_kept pass_kept
  beside =
      all_both (Beside words j) w (points w) (nodes w) opens.table _ _ _ _
      (take_beside words w (points w) (nodes w) j enough opens.ordered)
      (visit_beside words w (points w) (nodes w) j enough opens.ordered)
      (so_far (none words) 0) (so_far (none words) 0)
      (record { long = none_length words; long' = none_length words; same = λ i d. refl; out = none_kept words j; count = refl })

  -- the same nodes are opened
  pub pass_opened_lem : (pass_kept words w j).opened ≡ (filter_kept words w (spot_of w j)).opened
  pass_opened_lem = sym beside.count

  -- and the same positions are kept, but for j
  pub pass_keeps_lem : (i : ℕ) → pass_keeps words w j i ≡ (filter_keeps words w (spot_of w j) i && not (eqb i j))
  pass_keeps_lem i = go (ℕ_discrete i j)
    where
      yes_and : (a : Bool) → a ≡ (a && true)
      yes_and true = refl
      yes_and false = refl

      no_and : (a : Bool) → false ≡ (a && false)
      no_and true = refl
      no_and false = refl

      go : Dec (i ≡ j) → pass_keeps words w j i ≡ (filter_keeps words w (spot_of w j) i && not (eqb i j))
      go (yes e) = rw (eq-eqb i j e) (ap (kept (pass_kept words w j).bits) e ∙ beside.out ∙ no_and (filter_keeps words w (spot_of w j) i))
      go (no d) = rw (ne_eqb i j d) (sym (beside.same i d) ∙ yes_and (filter_keeps words w (spot_of w j) i))

  -- of any profile: j is passed over, and no more nodes are opened than the sheet has
  pub pass_keeps_by_lem : (φ : Profile) (i : ℕ) → pass_keeps_by φ words w j i ≡ (keeps_by φ words w (spot_of w j) i && not (eqb i j))
  unfolding pass_keeps_by keeps_by
  pass_keeps_by_lem φ i = ⊎_elim (λ (h : φ.half ≡ true). rw h (pass_keeps_lem i)) (λ (h : φ.half ≡ false). rw h) (decide φ.half)

  pub pass_opened_by : (φ : Profile) → pass_opened φ words w j ≡ keeps_opened φ words w (spot_of w j)
  unfolding pass_opened keeps_opened
  pass_opened_by φ = ap (λ (o : ℕ). cond φ.half o 0) pass_opened_lem

  -- a pair of the self join is a kept position of higher id whose ring walk is clear: what a page maker may rely on
  pub self_walked : (g : Bool) (i : ℕ) → j < points w → i < points w
      → pair_for (alone_by g) (points_of w) (points_of w) j i ≡ (pass_keeps_by (profile_of g) words w j i && ltb (id_at (points_of w) j) (id_at (points_of w) i) && clear (ring_walk (profile_of g) 0 w (spot_of w j) (spot_of w i)).hit)
  unfolding pair_for ring_pair_by
  self_walked g i hj hi =
      let low = ltb (id_at (points_of w) j) (id_at (points_of w) i) in
      let free = unblocked (profile_of g) (points_of w) (spot_at (points_of w) j) (spot_at (points_of w) i) in
      let keeps = pass_keeps_by (profile_of g) words w j i in
      let walked = clear (ring_walk (profile_of g) 0 w (spot_of w j) (spot_of w i)).hit in
      let is : walked ≡ free = walk_clear_iff (profile_of g) (profile_lawful g) 0 w opens (spot_of w j) (spot_of w i) ∙ ap₂ (unblocked (profile_of g) (points_of w)) (sym (spot_of_lem w j hj)) (sym (spot_of_lem w i hi)) in
      test_iff _ _
      (λ e.
      let f = and_left free free (and_right low (free && free) e) in
      let l = and_left low (free && free) e in
      and_both (keeps && low) walked (and_both keeps low (is_kept l f) l) (is ∙ f))
      (λ e.
      let f = sym is ∙ and_right (keeps && low) walked e in
      and_both low (free && free) (and_right keeps low (and_left (keeps && low) walked e)) (and_both free free f f))
    where
      is_kept : ltb (id_at (points_of w) j) (id_at (points_of w) i) ≡ true → unblocked (profile_of g) (points_of w) (spot_at (points_of w) j) (spot_at (points_of w) i) ≡ true → pass_keeps_by (profile_of g) words w j i ≡ true
      is_kept l f =
          let ring : ring_pair_by (profile_of g) (points_of w) (points_of w) j i ≡ true = unfold ring_pair_by in and_both (unblocked (profile_of g) (points_of w) (spot_at (points_of w) j) (spot_at (points_of w) i)) (unblocked (profile_of g) (points_of w) (spot_at (points_of w) j) (spot_at (points_of w) i)) f f in
          let apart : i ≡ j → ⊥ = λ e. let z = ltb-true (id_at (points_of w) j) (id_at (points_of w) i) l in let y = ap (id_at (points_of w)) e in omega arith in
          pass_keeps_by_lem (profile_of g) i ∙ and_both (keeps_by (profile_of g) words w (spot_of w j) i) (not (eqb i j)) (keeps_partner (profile_of g) (profile_lawful g) words w w opens enough j i hj hi ring) (ap not (ne_eqb i j apart))
