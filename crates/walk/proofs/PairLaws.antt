-- The ring rule on the list of a sheet's points, as the walks meet it; and the pair walk by the walks of its two sheets.
-- Assumes nothing.
use mathlib.Core.Path.{◌≡◌, refl, sym, ap, subst, ◌∙◌}
use mathlib.Core.Bool.{Bool, true, false, cond, not, ◌&&◌}
use mathlib.Core.List.{List}
use Prim.Native.Nat.{ℕ, ◌<◌}
use native.Mathlib.Omega.{arith}
use lib.IntN.{ℤ}
use lib.ListN.{length}
use borrow.Author.Tests.{not-true}
use Rattle.integers.proofs.Bools.{test_iff}
use Rattle.words.proofs.AllLaws.{all_at, all_make}
use Rattle.plane.specs.declared.Spot.{Spot}
use Rattle.plane.specs.Profile.{Profile}
use Rattle.plane.proofs.ProfileLaws.{Lawful}
use Rattle.list.specs.RingList.{unblocked, ring_pair_by}
use Rattle.sheet.specs.Layout.{points, nodes}
use Rattle.sheet.specs.Places.{spot_of, points_of}
use Rattle.sheet.specs.Open.{Opens}
use Rattle.sheet.proofs.PointsLaws.{length_points, spot_of_lem}
use Rattle.walk.specs.declared.Hit.{Hit}
use Rattle.walk.specs.declared.Answer.{Answer}
use Rattle.walk.specs.RingWalk.{clear, ring_on, ring_walk, pair_walk_by}
use Rattle.walk.specs.Claims.{Free, plus, over_q, over_p}
use Rattle.walk.proofs.RingLaws.{only_clear, clear_free, free_clear, on_stops, on_adds}

module _ (φ : Profile) where
  -- ---- the ring rule

  pub unblocked_free : (w : List ℤ) (a b : Spot) → unblocked φ (points_of w) a b ≡ true → Free φ w (points w) a b
  unfolding unblocked
  unblocked_free w a b e i h = ap (φ.blocks a b) (sym (spot_of_lem w i h)) ∙ not-true _ (all_at _ (length (points_of w)) e i (omega (arith, length_points w)))

  pub free_unblocked : (w : List ℤ) (a b : Spot) → Free φ w (points w) a b → unblocked φ (points_of w) a b ≡ true
  unfolding unblocked
  free_unblocked w a b f =
      all_make _ (length (points_of w)) (λ i h. let l : i < points w = omega (arith, length_points w) in ap (λ (z : Spot). not (φ.blocks a b z)) (spot_of_lem w i l) ∙ ap not (f i l))

  -- a ring walk of a sheet is clear exactly if no record blocks
  pub walk_unblocked : Lawful φ → (set : ℕ) (w : List ℤ) → Opens w (points w) (nodes w) → (a b : Spot) → clear (ring_walk φ set w a b).hit ≡ unblocked φ (points_of w) a b
  walk_unblocked law set w o a b =
      test_iff _ _ (λ e. free_unblocked w a b (clear_free φ law set w o a b e)) (λ e. free_clear φ law set w o a b (unblocked_free w a b e))

  -- the rule for q at position j of Q and p at position i of P, by where they stand in the sheets
  pub pair_rule : (P Q : List ℤ) (j i : ℕ) → j < points Q → i < points P → ring_pair_by φ (points_of P) (points_of Q) j i ≡ (unblocked φ (points_of Q) (spot_of Q j) (spot_of P i) && unblocked φ (points_of P) (spot_of Q j) (spot_of P i))
  unfolding ring_pair_by
  pair_rule P Q j i hj hi = rw (spot_of_lem Q j hj, spot_of_lem P i hi)

  -- ---- the pair walk

  module _ (P Q : List ℤ) (j i : ℕ) where
    -- Q first, then P if Q is clear; the counts add up
    pub pair_walks : pair_walk_by φ P Q j i ≡ cond (clear (over_q φ P Q j i).hit) (plus (over_q φ P Q j i).opened (over_p φ P Q j i)) (over_q φ P Q j i)
    unfolding pair_walk_by
    pair_walks = go (over_q φ P Q j i) (clear (over_q φ P Q j i).hit) refl
      where
        go : (x : Answer) (t : Bool) → clear x.hit ≡ t → ring_on φ 0 P (spot_of Q j) (spot_of P i) x ≡ cond t (plus x.opened (over_p φ P Q j i)) x
        go x true e = ap (ring_on φ 0 P (spot_of Q j) (spot_of P i)) (only_clear x e) ∙ on_adds φ 0 P (spot_of Q j) (spot_of P i) x.opened
        go x false e = on_stops φ 0 P (spot_of Q j) (spot_of P i) x e

    -- clear is clear of both
    pub pair_both : clear (pair_walk_by φ P Q j i).hit ≡ (clear (over_q φ P Q j i).hit && clear (over_p φ P Q j i).hit)
    pair_both = ap (λ (s : Answer). clear s.hit) pair_walks ∙ both (over_q φ P Q j i) (clear (over_q φ P Q j i).hit) refl
      where
        both : (x : Answer) (t : Bool) → clear x.hit ≡ t → clear (cond t (plus x.opened (over_p φ P Q j i)) x).hit ≡ (t && clear (over_p φ P Q j i).hit)
        both x true e = refl
        both x false e = e

    -- what is so of the hit of either walk is so of the pair's
    pub pair_hit : (T : Hit → Type 0) → T (over_q φ P Q j i).hit → T (over_p φ P Q j i).hit → T (pair_walk_by φ P Q j i).hit
    pair_hit T x y = subst (λ (s : Answer). T s.hit) (sym pair_walks) (go (clear (over_q φ P Q j i).hit))
      where
        go : (t : Bool) → T (cond t (plus (over_q φ P Q j i).opened (over_p φ P Q j i)) (over_q φ P Q j i)).hit
        go true = y
        go false = x
