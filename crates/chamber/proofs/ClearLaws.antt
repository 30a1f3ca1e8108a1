-- A walk that tells whether a record blocks: what is told of the places that a node covers, and of a whole sheet.
-- Assumes nothing.
use mathlib.Core.Path.{◌≡◌, refl, sym, ap, subst, ◌∙◌}
use mathlib.Core.Bool.{Bool, true, false, not}
use mathlib.Core.Logic.{⊎_elim}
use mathlib.Core.List.{List}
use Prim.Native.Nat.{ℕ, ◌+◌, ◌-◌, ◌≤◌, ◌<◌}
use native.Mathlib.Omega.{arith}
use native.Mathlib.Nat.{pos_of_ne-zero}
use native.Mathlib.Decide.{ℕ_discrete}
use lib.IntN.{ℤ}
use Rattle.integers.proofs.Bools.{clash, test_iff, decide, failed, passed}
use Rattle.plane.specs.declared.Spot.{Spot}
use Rattle.plane.specs.Profile.{Profile, profile_of}
use Rattle.plane.proofs.ProfileLaws.{Lawful}
use Rattle.sheet.specs.Layout.{points}
use Rattle.sheet.specs.Order.{order_of, rank_of}
use Rattle.sheet.specs.Nodes.{level_of}
use Rattle.sheet.specs.Boxes.{Below}
use Rattle.sheet.specs.Places.{spot_of, box_of, points_of}
use Rattle.sheet.specs.Open.{Opens}
use Rattle.sheet.proofs.OrderLaws.{order_rank, rank_below}
use Rattle.sheet.proofs.PlaceLaws.{in_box_lem}
use Rattle.sheet.proofs.CoverLaws.{root_below}
use Rattle.list.specs.RingList.{unblocked}
use Rattle.walk.specs.Claims.{Free}
use Rattle.walk.proofs.PairLaws.{unblocked_free, free_unblocked}
use Rattle.chamber.specs.Clear.{Clears, Tells}

module _ (φ : Profile) (w : List ℤ) (n : ℕ) (a b : Spot) where
  pub tells_yes : (C : ℕ → Type 0) → Clears φ w n a b C → Tells φ w n a b C true
  tells_yes C f = record { clear = λ e. f; met = λ e. clash refl e }

  pub tells_no : (C : ℕ → Type 0) (i : ℕ) → i < n → φ.blocks a b (spot_of w i) ≡ true → Tells φ w n a b C false
  tells_no C i h e = record { clear = λ x. clash x refl; met = λ x. (i, h, e) }

  -- a record was met below a node
  pub tells_met : (C D : ℕ → Type 0) (r : Bool) → Tells φ w n a b D r → not r ≡ true → Tells φ w n a b C false
  tells_met C D r t e = let x = t.met (failed refl e) in tells_no C x.0 x.1 x.2

  -- the same places, said in another way
  pub clears_as : (C D : ℕ → Type 0) → ((k : ℕ) → D k → C k) → Clears φ w n a b C → Clears φ w n a b D
  clears_as C D f t = record { at = λ k x. t.at k (f k x) }

  pub tells_as : (C D : ℕ → Type 0) (r : Bool) → ((k : ℕ) → D k → C k) → Tells φ w n a b C r → Tells φ w n a b D r
  tells_as C D r f t = record { clear = λ e. clears_as C D f (t.clear e); met = t.met }

  pub clears_none : (C : ℕ → Type 0) → ((k : ℕ) → C k → ⊥) → Clears φ w n a b C
  clears_none C never = record { at = λ k x. absurd (never k x) }

  -- one place after those before it, where the record there does not block
  pub clears_next : (first i : ℕ) (r : Bool) → Clears φ w n a b (λ k. (first ≤ k) × (k < first + i)) → r ≡ φ.blocks a b (spot_of w (order_of w n (first + i))) → r ≡ false → Clears φ w n a b (λ k. (first ≤ k) × (k < first + (i + 1)))
  clears_next first i r f e h = record { at = λ k x. go k x.0 x.1 (ℕ_discrete k (first + i)) }
    where
      go : (k : ℕ) → first ≤ k → k < first + (i + 1) → Dec (k ≡ first + i) → φ.blocks a b (spot_of w (order_of w n k)) ≡ false
      go k l u (yes s) = ap (λ (y : ℕ). φ.blocks a b (spot_of w (order_of w n y))) s ∙ sym e ∙ h
      go k l u (no s) = f.at k (l, omega arith)

  -- one node, of the level below, after those before it
  clears_node : (l first i : ℕ) → level_of w n (first + i) ≡ l → Clears φ w n a b (λ k. (v : ℕ) × (first ≤ v) × (v < first + i) × Below w n l v k) → Clears φ w n a b (Below w n (level_of w n (first + i)) (first + i))
      → Clears φ w n a b (λ k. (v : ℕ) × (first ≤ v) × (v < first + (i + 1)) × Below w n l v k)
  clears_node l first i s f g = record { at = λ k x. go k x.0 x.1 x.2 x.3 (ℕ_discrete x.0 (first + i)) }
    where
      go : (k v : ℕ) → first ≤ v → v < first + (i + 1) → Below w n l v k → Dec (v ≡ first + i) → φ.blocks a b (spot_of w (order_of w n k)) ≡ false
      go k v p u d (yes h) = g.at k (subst (λ (x : ℕ). Below w n x (first + i) k) (sym s) (subst (λ (t : ℕ). Below w n l t k) h d))
      go k v p u d (no h) = f.at k (v, p, omega arith, d)

  -- a walk below it told that none blocks
  pub clears_walked : (l first i : ℕ) (r : Bool) → level_of w n (first + i) ≡ l → Clears φ w n a b (λ k. (v : ℕ) × (first ≤ v) × (v < first + i) × Below w n l v k) → Tells φ w n a b (Below w n (level_of w n (first + i)) (first + i)) r → not r ≡ false
      → Clears φ w n a b (λ k. (v : ℕ) × (first ≤ v) × (v < first + (i + 1)) × Below w n l v k)
  clears_walked l first i r s f t e = clears_node l first i s f (t.clear (passed refl e))

  -- its box is far
  pub clears_far : Lawful φ → (m : ℕ) → Opens w n m → (l first i : ℕ) (r : Bool) → first + i < m → level_of w n (first + i) ≡ l → Clears φ w n a b (λ k. (v : ℕ) × (first ≤ v) × (v < first + i) × Below w n l v k)
      → r ≡ φ.far a b (box_of w n (first + i)) → not r ≡ false → Clears φ w n a b (λ k. (v : ℕ) × (first ≤ v) × (v < first + (i + 1)) × Below w n l v k)
  clears_far law m o l first i r h s f e z =
      clears_node l first i s f
      (record { at = λ k x. law.far_clear a b (box_of w n (first + i)) (spot_of w (order_of w n k)) (passed e z) (in_box_lem w n m o.table o.tight (level_of w n (first + i)) (first + i) h refl k x) })

-- ---- a whole sheet

module _ (g : Bool) (w : List ℤ) (n m : ℕ) (o : Opens w n m) (a b : Spot) where
  -- with no node there is no point
  pub whole_none : m ≡ 0 → true ≡ unblocked (profile_of g) (points_of w) a b
  whole_none z = sym (free_unblocked (profile_of g) w a b (λ i h. absurd (omega (arith, o.empty z, o.n_is))))

  pub whole_tells : (m ≡ 0 → ⊥) → (r : Bool) → Tells (profile_of g) w n a b (Below w n (level_of w n (m - 1)) (m - 1)) r → r ≡ unblocked (profile_of g) (points_of w) a b
  whole_tells some r t = test_iff _ _ (λ e. free_unblocked (profile_of g) w a b (free e)) (λ e. ⊎_elim (λ (y : r ≡ true). y) (λ (f : r ≡ false). clash (t.met f).2 (unblocked_free (profile_of g) w a b e (t.met f).0 (omega (arith, (t.met f).1, o.n_is)))) (decide r))
    where
      free : r ≡ true → Free (profile_of g) w (points w) a b
      free e i h =
          let low : i < n = omega (arith, o.n_is) in
          subst (λ (x : ℕ). (profile_of g).blocks a b (spot_of w x) ≡ false) (order_rank w n o.ordered i low)
          ((t.clear e).at (rank_of w n i) (root_below w n m o.table (pos_of_ne-zero some) (rank_of w n i) (rank_below w n o.ordered i low)))
