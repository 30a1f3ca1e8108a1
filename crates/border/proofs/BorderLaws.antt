-- What a part says of its whole: P and Q are two sets of points, however large; the part has those of both that stand in a box R.
--
--     part_within, part_has      a record of the part is one of the whole that stands in R, and each of those is one of the part; part_rises: its ids ascend too
--     blocked_in                 where the circle of a pair lies in R, so does all that blocks the pair
--     border_pair                so the pair is a ring pair of the whole exactly if it is one of the part
--     border_keeps               a pair of the whole whose ends are of the part is one of the part, whether its circle lies in R or not: what blocks it there blocks it in the whole
--     ends_in                    the ends of a pair whose circle lies in R are of the part
--     border_list, border_part   so it stands in the list of the whole exactly if it stands in that of the part, with the same ids and size; border_listed: and of any pair with ends in R, one way
--     margin_enough              the circle lies in R, a core and its margin, where both ends stand in the core and are at most two margins apart; margin_chamber: or where one end does and they
--                                are at most one margin apart
--     clear_root                 where the size is the square of a way, as along the streets, the test of a side compares the way itself
--     border_closed              a chamber that has all of the map outside R behind records of the part has all its partners in R; behind_box: a box is behind a record by the test of its corners
-- Assumes nothing.
use mathlib.Core.Path.{◌≡◌, refl, sym, ap, ap₂, subst, ◌∙◌}
use mathlib.Core.Bool.{Bool, true, false, cond, not, ◌&&◌}
use mathlib.Core.Logic.{◌↔◌, ◌⊎◌, inl, inr, ⊎_elim}
use mathlib.Core.List.{List, [], ◌∷◌, Memᴰ}
use Prim.Native.Nat.{ℕ, zero, suc, ◌+◌, ◌*◌, ◌≤◌, ◌<◌}
use native.Mathlib.Omega.{arith}
use native.Mathlib.Numerals.{add-one}
use native.Mathlib.Nat.{mul-le-mul}
use lib.IntN.{ℤ, pos, negsuc, nat_abs, ◌+ℤ◌, ◌-ℤ◌, ◌*ℤ◌}
use lib.Signed.{le_z, ◌≤ℤ◌}
use lib.ListN.{length}
use borrow.Author.Tests.{leb-true, le-leb}
use Rattle.integers.proofs.Order.{zl, nn, sum, diff, abs_n}
use Rattle.integers.proofs.Linear.{pp_scale, nn_scale}
use Rattle.integers.proofs.Bools.{decide, clash, and_left, and_right, and_both, test_iff}
use Rattle.words.specs.All.{all_b}
use Rattle.words.proofs.AllLaws.{all_at, all_make, all_stop}
use Rattle.plane.specs.declared.Spot.{Spot}
use Rattle.plane.specs.declared.Boxed.{Boxed}
use Rattle.plane.specs.Rule.{sq, in_box, drops, drops_box}
use Rattle.plane.specs.Profile.{Profile, circle, profile_of}
use Rattle.plane.specs.Point.{Point, point_at, id_at, spot_at}
use Rattle.plane.proofs.Plane.{In}
use Rattle.plane.proofs.RuleLaws.{box_holds, box_drops}
use Rattle.list.specs.declared.Pair.{Pair}
use Rattle.list.specs.Rows.{Rising}
use Rattle.list.specs.RingList.{unblocked, ring_pair_by, pair_by}
use Rattle.list.specs.Terms.{with_by, list_for}
use Rattle.list.proofs.RowLaws.{rises_far, ring_iff}
use Rattle.list.proofs.TermsLaws.{full_ring_list}
use Rattle.border.proofs.ReachLaws.{root_le, square_is, Near, block_near, end_near, spans}
use Rattle.border.specs.Border.{part_of, clears, circle_in, widened, Behind, Closed}

-- ---- positions of a part, and of its whole

-- a record stands in a set, at a position
pub record Stands (s : List Point) (p : Point) : Type 0 where
  pub at : ℕ
  pub here : at < length s
  pub is : point_at s at ≡ p

-- where the record at a position of the part stands in the whole: by whether the first record of the whole is of the part
past : Bool → (ℕ → ℕ) → ℕ → ℕ
past true w zero = 0
past true w (suc k) = suc (w k)
past false w k = suc (w k)

in_whole : Boxed → List Point → ℕ → ℕ
in_whole r [] k = 0
in_whole r (p ∷ s) k = past (in_box r p.spot) (in_whole r s) k

-- what is said of a position k of a part: w is the position in the whole of each of the part
record Comes (r : Boxed) (s t : List Point) (w : ℕ → ℕ) (k : ℕ) : Type 0 where
  here : w k < length s
  is : point_at s (w k) ≡ point_at t k
  in_box_lem : in_box r (spot_at t k) ≡ true
  -- later in the part is later in the whole
  later : suc k < length t → w k < w (suc k)

comes : (r : Boxed) (s : List Point) (k : ℕ) → k < length (part_of r s) → Comes r s (part_of r s) (in_whole r s) k
unfolding part_of in_whole past
comes r [] k h = absurd (omega arith)
comes r (p ∷ s) k h = go (comes r s) (in_box r p.spot) refl k h
  where
    go : ((k : ℕ) → k < length (part_of r s) → Comes r s (part_of r s) (in_whole r s) k) → (b : Bool) → in_box r p.spot ≡ b → (k : ℕ) → k < length (cond b (p ∷ part_of r s) (part_of r s))
        → Comes r (p ∷ s) (cond b (p ∷ part_of r s) (part_of r s)) (past b (in_whole r s)) k
    go rest true e zero h = record { here = omega arith; is = refl; in_box_lem = e; later = λ l. omega arith }
    go rest true e (suc k) h =
        let z = rest k (omega arith) in
        record { here = omega (arith, z.here); is = z.is; in_box_lem = z.in_box_lem; later = λ l. omega (arith, z.later (omega arith)) }
    go rest false e k h =
        let z = rest k h in
        record { here = omega (arith, z.here); is = z.is; in_box_lem = z.in_box_lem; later = λ l. omega (arith, z.later l) }

-- a record of the part is one of the whole, and stands in the box
pub part_within : (r : Boxed) (s : List Point) (k : ℕ) → k < length (part_of r s) → Stands s (point_at (part_of r s) k) × (in_box r (spot_at (part_of r s) k) ≡ true)
part_within r s k h = let z = comes r s k h in (record { at = in_whole r s k; here = z.here; is = z.is }, z.in_box_lem)

-- and each record of the whole that stands in the box is one of the part
pub part_has : (r : Boxed) (s : List Point) (k : ℕ) → k < length s → in_box r (spot_at s k) ≡ true → Stands (part_of r s) (point_at s k)
unfolding part_of
part_has r [] k h e = absurd (omega arith)
part_has r (p ∷ s) zero h e = rw e (record { at = 0; here = omega arith; is = refl })
part_has r (p ∷ s) (suc k) h e = go (in_box r p.spot) (part_has r s k (omega arith) e)
  where
    go : (b : Bool) → Stands (part_of r s) (point_at s k) → Stands (cond b (p ∷ part_of r s) (part_of r s)) (point_at s k)
    go true z = record { at = suc z.at; here = omega (arith, z.here); is = z.is }
    go false z = z

-- the ids of a part ascend as those of the whole do
pub part_rises : (r : Boxed) (s : List Point) → Rising (id_at s) (length s) → Rising (id_at (part_of r s)) (length (part_of r s))
part_rises r s x =
    record {
      rises = λ k h.
          let l : suc k < length (part_of r s) = omega arith in
          let far = rises_far (id_at s) (length s) x (in_whole r s k) (in_whole r s (suc k)) ((comes r s k (omega arith)).later l) (comes r s (suc k) l).here in
          rw add-one (omega (arith, id k (omega arith), id (suc k) l, far));
      low = λ k h. omega (arith, id k h, x.low (in_whole r s k) (comes r s k h).here);
      high = λ k h. omega (arith, id k h, x.high (in_whole r s k) (comes r s k h).here);
    }
  where
    id : (k : ℕ) → k < length (part_of r s) → id_at s (in_whole r s k) ≡ id_at (part_of r s) k
    id k h = ap (λ (p : Point). p.id) (comes r s k h).is

-- ---- the test of a side

-- what the test of a side says: the way to it is not negative, and its square is at least the size; and back
module _ (f : Profile) (a b : Spot) (t : ℤ) where
  clear_says : clears f a b t ≡ true → (pos 0 ≤ℤ t) × (f.size a b ≤ nat_abs t * nat_abs t)
  clear_says e =
      let h : le_z (pos 0) t ≡ true = and_left (le_z (pos 0) t) (le_z (pos (f.size a b)) (sq t)) e in
      let k : le_z (pos (f.size a b)) (sq t) ≡ true = and_right (le_z (pos 0) t) (le_z (pos (f.size a b)) (sq t)) e in
      (omega zl, leb-true (f.size a b) (nat_abs t * nat_abs t) (ap (le_z (pos (f.size a b))) (square_is t) ∙ k))

  -- where the way is at least n, and the square of n at least the size
  clear_makes : (n : ℕ) → pos n ≤ℤ t → f.size a b ≤ n * n → clears f a b t ≡ true
  clear_makes n h k =
      let up : n ≤ nat_abs t = omega (zl, abs_n t) in
      and_both (le_z (pos 0) t) (le_z (pos (f.size a b)) (sq t)) (omega zl)
      (ap (le_z (pos (f.size a b))) (sym (square_is t)) ∙ le-leb (f.size a b) (nat_abs t * nat_abs t) (omega (arith, mul-le-mul {n₁ = n} {m₁ = n} {n₂ = nat_abs t} {m₂ = nat_abs t} up up)))

-- ---- what lies in the circle lies in the box

no_minus : (t : ℤ) → pos 0 ≤ℤ t → nn t ≡ 0
no_minus (pos n) h = refl
no_minus (negsuc n) h = absurd h.le

-- one axis: s is twice the middle
past_low : (s lo z : ℤ) (d : ℕ) → pos 0 ≤ℤ (s -ℤ pos 2 *ℤ lo) → d ≤ nat_abs (s -ℤ pos 2 *ℤ lo) * nat_abs (s -ℤ pos 2 *ℤ lo)
    → nat_abs (pos 2 *ℤ z -ℤ s) * nat_abs (pos 2 *ℤ z -ℤ s) ≤ d → lo ≤ℤ z
past_low s lo z d h k n =
    let l = root_le (nat_abs (pos 2 *ℤ z -ℤ s)) (nat_abs (s -ℤ pos 2 *ℤ lo)) (omega arith) in
    omega (zl, l, no_minus (s -ℤ pos 2 *ℤ lo) h, abs_n (pos 2 *ℤ z -ℤ s), abs_n (s -ℤ pos 2 *ℤ lo), diff s (pos 2 *ℤ lo), diff (pos 2 *ℤ z) s, pp_scale 2 lo, nn_scale 2 lo, pp_scale 2 z, nn_scale 2 z)

below_high : (s hi z : ℤ) (d : ℕ) → pos 0 ≤ℤ (pos 2 *ℤ hi -ℤ s) → d ≤ nat_abs (pos 2 *ℤ hi -ℤ s) * nat_abs (pos 2 *ℤ hi -ℤ s)
    → nat_abs (pos 2 *ℤ z -ℤ s) * nat_abs (pos 2 *ℤ z -ℤ s) ≤ d → z ≤ℤ hi
below_high s hi z d h k n =
    let l = root_le (nat_abs (pos 2 *ℤ z -ℤ s)) (nat_abs (pos 2 *ℤ hi -ℤ s)) (omega arith) in
    omega (zl, l, no_minus (pos 2 *ℤ hi -ℤ s) h, abs_n (pos 2 *ℤ z -ℤ s), abs_n (pos 2 *ℤ hi -ℤ s), diff (pos 2 *ℤ hi) s, diff (pos 2 *ℤ z) s, pp_scale 2 hi, nn_scale 2 hi, pp_scale 2 z, nn_scale 2 z)

pub box_has : (r : Boxed) (z : Spot) → In r z → in_box r z ≡ true
unfolding in_box
box_has r z i = rw (le i.left, le i.right, le i.low, le i.high)
  where
    le : {a b : ℤ} → a ≤ℤ b → le_z a b ≡ true
    le {a} {b} h = omega zl

near_in : (f : Profile) (r : Boxed) (a b z : Spot) → circle_in f r a b ≡ true → Near f a b z → in_box r z ≡ true
unfolding circle_in
near_in f r a b z e n =
    let left = a.x +ℤ b.x -ℤ pos 2 *ℤ r.xmin in
    let right = pos 2 *ℤ r.xmax -ℤ (a.x +ℤ b.x) in
    let low = a.y +ℤ b.y -ℤ pos 2 *ℤ r.ymin in
    let high = pos 2 *ℤ r.ymax -ℤ (a.y +ℤ b.y) in
    let x = and_left (clears f a b left && clears f a b right) (clears f a b low && clears f a b high) e in
    let y = and_right (clears f a b left && clears f a b right) (clears f a b low && clears f a b high) e in
    let l = clear_says f a b left (and_left (clears f a b left) (clears f a b right) x) in
    let g = clear_says f a b right (and_right (clears f a b left) (clears f a b right) x) in
    let d = clear_says f a b low (and_left (clears f a b low) (clears f a b high) y) in
    let u = clear_says f a b high (and_right (clears f a b low) (clears f a b high) y) in
    box_has r z
    (record {
      left = past_low (a.x +ℤ b.x) r.xmin z.x (f.size a b) l.0 l.1 n.x_near;
      right = below_high (a.x +ℤ b.x) r.xmax z.x (f.size a b) g.0 g.1 n.x_near;
      low = past_low (a.y +ℤ b.y) r.ymin z.y (f.size a b) d.0 d.1 n.y_near;
      high = below_high (a.y +ℤ b.y) r.ymax z.y (f.size a b) u.0 u.1 n.y_near;
    })

-- where the circle of a pair lies in R, all that blocks the pair stands in R
pub blocked_in : (g : Bool) (r : Boxed) (a b z : Spot) → circle_in (profile_of g) r a b ≡ true → (profile_of g).blocks a b z ≡ true → in_box r z ≡ true
blocked_in g r a b z c e = near_in (profile_of g) r a b z c (block_near g a b z e)

-- and so do its ends
pub ends_in : (g : Bool) (r : Boxed) (a b : Spot) → circle_in (profile_of g) r a b ≡ true → (in_box r a ≡ true) × (in_box r b ≡ true)
ends_in g r a b c = (near_in (profile_of g) r a b a c (end_near g a b).0, near_in (profile_of g) r a b b c (end_near g a b).1)

-- ---- the border theorem

-- what blocks in the part blocks in the whole
part_unblocked : (f : Profile) (r : Boxed) (s : List Point) (a b : Spot) → unblocked f s a b ≡ true → unblocked f (part_of r s) a b ≡ true
unfolding unblocked
part_unblocked f r s a b e =
    all_make _ (length (part_of r s))
    (λ k h. let z = (part_within r s k h).0 in ap (λ (p : Point). not (f.blocks a b p.spot)) (sym z.is) ∙ all_at _ (length s) e z.at z.here)

-- and where all that blocks stands in the box, what blocks in the whole blocks in the part
same_unblocked : (f : Profile) (r : Boxed) (s : List Point) (a b : Spot) → ((z : Spot) → f.blocks a b z ≡ true → in_box r z ≡ true) → unblocked f s a b ≡ unblocked f (part_of r s) a b
unfolding unblocked
same_unblocked f r s a b inside = test_iff _ _ (λ e. unfold unblocked in part_unblocked f r s a b e) (λ e. all_make _ (length s) (λ k h. one e k h (decide (f.blocks a b (spot_at s k)))))
  where
    one : all_b (length (part_of r s)) (λ k. not (f.blocks a b (spot_at (part_of r s) k))) ≡ true → (k : ℕ) → k < length s → (f.blocks a b (spot_at s k) ≡ true) ⊎ (f.blocks a b (spot_at s k) ≡ false) → not (f.blocks a b (spot_at s k)) ≡ true
    one e k h (inl t) = let z = part_has r s k h (inside (spot_at s k) t) in ap (λ (p : Point). not (f.blocks a b p.spot)) (sym z.is) ∙ all_at _ (length (part_of r s)) e z.at z.here
    one e k h (inr t) = ap not t

module _ (g : Bool) (r : Boxed) (P Q : List Point) where
  -- q is position j of the whole and j' of the part, p is i and i'
  module _ (j i j' i' : ℕ) (same_q : point_at Q j ≡ point_at (part_of r Q) j') (same_p : point_at P i ≡ point_at (part_of r P) i') where
    q_is : spot_at Q j ≡ spot_at (part_of r Q) j'
    q_is = ap (λ (p : Point). p.spot) same_q

    p_is : spot_at P i ≡ spot_at (part_of r P) i'
    p_is = ap (λ (p : Point). p.spot) same_p

    -- A chamber and a pump house whose circle lies in R are a ring pair of the whole exactly if they are one of the part.
    pub border_pair : circle_in (profile_of g) r (spot_at Q j) (spot_at P i) ≡ true → ring_pair_by (profile_of g) P Q j i ≡ ring_pair_by (profile_of g) (part_of r P) (part_of r Q) j' i'
    unfolding ring_pair_by
    border_pair c =
        let f = profile_of g in
        let inside : (z : Spot) → f.blocks (spot_at Q j) (spot_at P i) z ≡ true → in_box r z ≡ true = λ z. blocked_in g r (spot_at Q j) (spot_at P i) z c in
        ap₂ ◌&&◌ (same_unblocked f r Q (spot_at Q j) (spot_at P i) inside) (same_unblocked f r P (spot_at Q j) (spot_at P i) inside)
        ∙ ap₂ (λ (a b : Spot). unblocked f (part_of r Q) a b && unblocked f (part_of r P) a b) q_is p_is

    -- A ring pair of the whole whose ends are of the part is one of the part, wherever its circle reaches. So what is no pair of the part is none of the whole.
    pub border_keeps : ring_pair_by (profile_of g) P Q j i ≡ true → ring_pair_by (profile_of g) (part_of r P) (part_of r Q) j' i' ≡ true
    unfolding ring_pair_by
    border_keeps e =
        let f = profile_of g in
        let a = spot_at Q j in
        let b = spot_at P i in
        sym (ap₂ (λ (a b : Spot). unblocked f (part_of r Q) a b && unblocked f (part_of r P) a b) q_is p_is)
        ∙ and_both (unblocked f (part_of r Q) a b) (unblocked f (part_of r P) a b)
        (part_unblocked f r Q a b (and_left (unblocked f Q a b) (unblocked f P a b) e))
        (part_unblocked f r P a b (and_right (unblocked f Q a b) (unblocked f P a b) e))

    -- the pair says the same in both: ids and size
    pub same_pair : pair_by (profile_of g) P Q j i ≡ pair_by (profile_of g) (part_of r P) (part_of r Q) j' i'
    same_pair = λ t. record { q = (same_q t).id; p = (same_p t).id; size = (profile_of g).size (q_is t) (p_is t) }

  -- ---- the lists

  -- the undivided list of all chambers, of this profile
  abbrev Listed : List Point → List Point → Pair → Type 0
  Listed P Q v = Memᴰ v (list_for (with_by g 0) [] P Q)

  listed_iff : (P Q : List Point) → Rising (id_at P) (length P) → Rising (id_at Q) (length Q) → (j i : ℕ) → j < length Q → i < length P → Listed P Q (pair_by (profile_of g) P Q j i) ↔ (ring_pair_by (profile_of g) P Q j i ≡ true)
  listed_iff P Q rp rq j i a b = rw (full_ring_list g [] P Q) (ring_iff (profile_of g) P Q rp rq j i a b)

  module _ (rp : Rising (id_at P) (length P)) (rq : Rising (id_at Q) (length Q)) where
    -- by positions in both
    module _ (j i j' i' : ℕ) (j_in : j < length Q) (i_in : i < length P) (j'-in : j' < length (part_of r Q)) (i'-in : i' < length (part_of r P))
        (same_q : point_at Q j ≡ point_at (part_of r Q) j') (same_p : point_at P i ≡ point_at (part_of r P) i') where
      whole_iff : Listed P Q (pair_by (profile_of g) P Q j i) ↔ (ring_pair_by (profile_of g) P Q j i ≡ true)
      whole_iff = listed_iff P Q rp rq j i j_in i_in

      part_iff : Listed (part_of r P) (part_of r Q) (pair_by (profile_of g) P Q j i) ↔ (ring_pair_by (profile_of g) (part_of r P) (part_of r Q) j' i' ≡ true)
      part_iff = rw (same_pair j i j' i' same_q same_p) (listed_iff (part_of r P) (part_of r Q) (part_rises r P rp) (part_rises r Q rq) j' i' j'-in i'-in)

      by_both : circle_in (profile_of g) r (spot_at Q j) (spot_at P i) ≡ true → Listed P Q (pair_by (profile_of g) P Q j i) ↔ Listed (part_of r P) (part_of r Q) (pair_by (profile_of g) P Q j i)
      by_both c =
          let e = border_pair j i j' i' same_q same_p c in
          (λ m. part_iff.1 (sym e ∙ whole_iff.0 m), λ m. whole_iff.1 (e ∙ part_iff.0 m))

    -- A chamber and a pump house of the whole whose circle lies in R stand in the list of the whole exactly if they stand in that of the part, with the same ids and size.
    pub border_list : (j i : ℕ) → j < length Q → i < length P → circle_in (profile_of g) r (spot_at Q j) (spot_at P i) ≡ true
        → Memᴰ (pair_by (profile_of g) P Q j i) (list_for (with_by g 0) [] P Q) ↔ Memᴰ (pair_by (profile_of g) P Q j i) (list_for (with_by g 0) [] (part_of r P) (part_of r Q))
    border_list j i j_in i_in c =
        let e = ends_in g r (spot_at Q j) (spot_at P i) c in
        let y = part_has r Q j j_in e.0 in
        let z = part_has r P i i_in e.1 in
        by_both j i y.at z.at j_in i_in y.here z.here (sym y.is) (sym z.is) c

    -- the same, by positions of the part
    pub border_part : (j' i' : ℕ) → j' < length (part_of r Q) → i' < length (part_of r P) → circle_in (profile_of g) r (spot_at (part_of r Q) j') (spot_at (part_of r P) i') ≡ true
        → Memᴰ (pair_by (profile_of g) (part_of r P) (part_of r Q) j' i') (list_for (with_by g 0) [] P Q) ↔ Memᴰ (pair_by (profile_of g) (part_of r P) (part_of r Q) j' i') (list_for (with_by g 0) [] (part_of r P) (part_of r Q))
    border_part j' i' j'-in i'-in c =
        let y = (part_within r Q j' j'-in).0 in
        let z = (part_within r P i' i'-in).0 in
        let c' : circle_in (profile_of g) r (spot_at Q y.at) (spot_at P z.at) ≡ true = ap₂ (λ (a b : Point). circle_in (profile_of g) r a.spot b.spot) y.is z.is ∙ c in
        subst (λ (v : Pair). Listed P Q v ↔ Listed (part_of r P) (part_of r Q) v) (same_pair y.at z.at j' i' y.is z.is) (by_both y.at z.at j' i' y.here z.here j'-in i'-in y.is z.is c')

    -- A pair of the whole with both ends in R stands in the list of the part, wherever its circle reaches: none is lost there.
    pub border_listed : (j i : ℕ) → j < length Q → i < length P → in_box r (spot_at Q j) ≡ true → in_box r (spot_at P i) ≡ true
        → Memᴰ (pair_by (profile_of g) P Q j i) (list_for (with_by g 0) [] P Q) → Memᴰ (pair_by (profile_of g) P Q j i) (list_for (with_by g 0) [] (part_of r P) (part_of r Q))
    border_listed j i j_in i_in q_in p_in m =
        let y = part_has r Q j j_in q_in in
        let z = part_has r P i i_in p_in in
        (part_iff j i y.at z.at j_in i_in y.here z.here (sym y.is) (sym z.is)).1
        (border_keeps j i y.at z.at (sym y.is) (sym z.is) ((whole_iff j i y.at z.at j_in i_in y.here z.here (sym y.is) (sym z.is)).0 m))

-- ---- margins

-- one axis: a in the core, b at most k outside it, and a margin of m: the middle is at least half of n away from the side
low_room : (a b lo : ℤ) (m n k : ℕ) → n + k ≤ 2 * m → lo ≤ℤ a → (lo -ℤ pos k) ≤ℤ b → pos n ≤ℤ (a +ℤ b -ℤ pos 2 *ℤ (lo -ℤ pos m))
low_room a b lo m n k e h l =
    omega (zl, diff lo (pos k), sum a b, diff (a +ℤ b) (pos 2 *ℤ (lo -ℤ pos m)), pp_scale 2 (lo -ℤ pos m), nn_scale 2 (lo -ℤ pos m), diff lo (pos m))

high_room : (a b hi : ℤ) (m n k : ℕ) → n + k ≤ 2 * m → a ≤ℤ hi → b ≤ℤ (hi +ℤ pos k) → pos n ≤ℤ (pos 2 *ℤ (hi +ℤ pos m) -ℤ (a +ℤ b))
high_room a b hi m n k e h l =
    omega (zl, sum hi (pos k), sum a b, diff (pos 2 *ℤ (hi +ℤ pos m)) (a +ℤ b), pp_scale 2 (hi +ℤ pos m), nn_scale 2 (hi +ℤ pos m), sum hi (pos m))

-- one end in the core, the other at most k outside it, the ends at most n apart, and a margin of at least half of n and k together
in_margin : (f : Profile) (c : Boxed) (m n k : ℕ) (a b : Spot) → n + k ≤ 2 * m → In c a → In (widened k c) b → f.size a b ≤ n * n → circle_in f (widened m c) a b ≡ true
unfolding circle_in
in_margin f c m n k a b e i o d =
    let l = clear_makes f a b (a.x +ℤ b.x -ℤ pos 2 *ℤ (c.xmin -ℤ pos m)) n (low_room a.x b.x c.xmin m n k e i.left o.left) d in
    let h = clear_makes f a b (pos 2 *ℤ (c.xmax +ℤ pos m) -ℤ (a.x +ℤ b.x)) n (high_room a.x b.x c.xmax m n k e i.right o.right) d in
    let u = clear_makes f a b (a.y +ℤ b.y -ℤ pos 2 *ℤ (c.ymin -ℤ pos m)) n (low_room a.y b.y c.ymin m n k e i.low o.low) d in
    let t = clear_makes f a b (pos 2 *ℤ (c.ymax +ℤ pos m) -ℤ (a.y +ℤ b.y)) n (high_room a.y b.y c.ymax m n k e i.high o.high) d in
    and_both _ _ (and_both _ _ l h) (and_both _ _ u t)

-- both ends in the core, at most two margins apart
pub margin_enough : (g : Bool) (c : Boxed) (m : ℕ) (a b : Spot) → in_box c a ≡ true → in_box c b ≡ true → (profile_of g).size a b ≤ (2 * m) * (2 * m) → circle_in (profile_of g) (widened m c) a b ≡ true
margin_enough g c m a b ea eb d = in_margin (profile_of g) c m (2 * m) 0 a b (omega arith) (box_holds c a ea) (wide (box_holds c b eb)) d
  where
    wide : In c b → In (widened 0 c) b
    wide i =
        record {
          left = let h = i.left in omega (zl, diff c.xmin (pos 0));
          right = let h = i.right in omega (zl, sum c.xmax (pos 0));
          low = let h = i.low in omega (zl, diff c.ymin (pos 0));
          high = let h = i.high in omega (zl, sum c.ymax (pos 0));
        }

-- the chamber in the core, the pump house anywhere, at most one margin apart
pub margin_chamber : (g : Bool) (c : Boxed) (m : ℕ) (a b : Spot) → in_box c a ≡ true → (profile_of g).size a b ≤ m * m → circle_in (profile_of g) (widened m c) a b ≡ true
margin_chamber g c m a b ea d = let i = box_holds c a ea in in_margin (profile_of g) c m m m a b (omega arith) i (near i) d
  where
    x_apart : nat_abs (a.x -ℤ b.x) ≤ m
    x_apart = root_le (nat_abs (a.x -ℤ b.x)) m (omega (arith, (spans g a b).0, d))

    y_apart : nat_abs (a.y -ℤ b.y) ≤ m
    y_apart = root_le (nat_abs (a.y -ℤ b.y)) m (omega (arith, (spans g a b).1, d))

    low_end : (lo u v : ℤ) → lo ≤ℤ u → nat_abs (u -ℤ v) ≤ m → (lo -ℤ pos m) ≤ℤ v
    low_end lo u v h k = omega (zl, diff lo (pos m), diff u v, abs_n (u -ℤ v))

    high_end : (hi u v : ℤ) → u ≤ℤ hi → nat_abs (u -ℤ v) ≤ m → v ≤ℤ (hi +ℤ pos m)
    high_end hi u v h k = omega (zl, sum hi (pos m), diff u v, abs_n (u -ℤ v))

    near : In c a → In (widened m c) b
    near i =
        record {
          left = low_end c.xmin a.x b.x i.left x_apart;
          right = high_end c.xmax a.x b.x i.right x_apart;
          low = low_end c.ymin a.y b.y i.low y_apart;
          high = high_end c.ymax a.y b.y i.high y_apart;
        }

-- ---- no square is needed where the size is one: of the street grid it is that of the way from a to b, and the diamond stays on this side where that is at most twice the way of the middle to the side

pub clear_root : (f : Profile) (a b : Spot) (t : ℤ) (d : ℕ) → f.size a b ≡ d * d → clears f a b t ≡ le_z (pos d) t
clear_root f a b t d s =
    test_iff _ _
    (λ e. let z = clear_says f a b t e in let l = root_le d (nat_abs t) (omega (arith, s, z.1)) in omega (zl, l, no_minus t z.0, abs_n t))
    (λ e. clear_makes f a b t d (omega zl) (omega (arith, s)))

-- ---- chambers that need no larger sheet

-- a box whose corners are behind a record, and which does not contain it, is behind it with all its places
pub behind_box : (s : List Point) (q : Spot) (o : Boxed) (k : ℕ) → k < length s → drops_box q (spot_at s k) o ≡ true → (z : Spot) → in_box o z ≡ true → Behind s q z
behind_box s q o k h e z i = record { at = k; here = h; drops_it = box_drops q (spot_at s k) o z e (box_holds o z i) }

-- what is behind a record of a set is no partner there
behind_blocked : (s : List Point) (q z : Spot) → Behind s q z → unblocked circle s q z ≡ false
unfolding unblocked drops
behind_blocked s q z b = sym (all_stop _ b.at (length s) b.here (ap not b.drops_it))

-- A chamber of a part that has all of the map outside R behind records of the part has all its partners in R: of the circle.
pub border_closed : (m r : Boxed) (P Q : List Point) (j i : ℕ) → Closed m r (part_of r P) (part_of r Q) (spot_at Q j) → in_box m (spot_at P i) ≡ true → ring_pair_by circle P Q j i ≡ true → in_box r (spot_at P i) ≡ true
unfolding ring_pair_by
border_closed m r P Q j i c on e = go (in_box r (spot_at P i)) refl
  where
    q_free : unblocked circle (part_of r Q) (spot_at Q j) (spot_at P i) ≡ true
    q_free = part_unblocked circle r Q (spot_at Q j) (spot_at P i) (and_left (unblocked circle Q (spot_at Q j) (spot_at P i)) (unblocked circle P (spot_at Q j) (spot_at P i)) e)

    p_free : unblocked circle (part_of r P) (spot_at Q j) (spot_at P i) ≡ true
    p_free = part_unblocked circle r P (spot_at Q j) (spot_at P i) (and_right (unblocked circle Q (spot_at Q j) (spot_at P i)) (unblocked circle P (spot_at Q j) (spot_at P i)) e)

    go : (b : Bool) → in_box r (spot_at P i) ≡ b → b ≡ true
    go true x = refl
    go false x =
        ⊎_elim
        (λ (h : Behind (part_of r P) (spot_at Q j) (spot_at P i)). clash p_free (behind_blocked (part_of r P) (spot_at Q j) (spot_at P i) h))
        (λ (h : Behind (part_of r Q) (spot_at Q j) (spot_at P i)). clash q_free (behind_blocked (part_of r Q) (spot_at Q j) (spot_at P i) h))
        (c.shut (spot_at P i) on x)
