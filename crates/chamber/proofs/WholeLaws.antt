-- The pairs of a chamber to a size that none of its pairs exceeds.
--     small_all         the rule to that size is the rule of the terms
--     small_ring        of the whole list of two sheets that open, it is the ring rule of the circle
--     pairs_partners    so as many pairs are kept as the chamber has ring partners
-- Assumes nothing.
use mathlib.Core.Path.{◌≡◌, refl, sym, ap, subst, ◌∙◌}
use mathlib.Core.Bool.{Bool, true, false, ◌&&◌}
use mathlib.Core.List.{List}
use Prim.Native.Nat.{ℕ, ◌≤◌, ◌<◌}
use native.Mathlib.Omega.{arith}
use lib.IntN.{ℤ}
use lib.ListN.{length}
use borrow.Author.Tests.{le-leb}
use Rattle.plane.specs.Rule.{SpotIn}
use Rattle.plane.specs.Profile.{circle}
use Rattle.plane.specs.Point.{Point, spot_at}
use Rattle.plane.proofs.ProfileLaws.{profile_lawful}
use Rattle.sheet.specs.Places.{points_of}
use Rattle.sheet.specs.Open.{Opens}
use Rattle.sheet.proofs.PointsLaws.{spot_of_lem, length_points}
use Rattle.sheet.proofs.RangeLaws.{spot_in}
use Rattle.list.specs.declared.Pair.{Pair}
use Rattle.list.specs.declared.Terms.{Terms}
use Rattle.list.specs.Rows.{row}
use Rattle.list.specs.RingList.{ring_pair, pair_by, partners_of}
use Rattle.list.specs.Terms.{full, profile_for, pair_for}
use Rattle.list.proofs.RowLaws.{row_same}
use Rattle.chamber.specs.Sized.{small_for}
use Rattle.chamber.specs.Chamber.{PairsOn}
use Rattle.chamber.proofs.ListedLaws.{points_many}

-- no pair of the two sets is larger
module _ (big : ℕ) (a : Terms) (P Q : List Point) (bound : (j i : ℕ) → j < length Q → i < length P → (profile_for a).size (spot_at Q j) (spot_at P i) ≤ big) where
  pub small_all : (j i : ℕ) → j < length Q → i < length P → small_for big a P Q j i ≡ pair_for a P Q j i
  unfolding small_for
  small_all j i hj hi = ap (λ (t : Bool). pair_for a P Q j i && t) (le-leb _ big (bound j i hj hi)) ∙ and_yes (pair_for a P Q j i)
    where
      and_yes : (t : Bool) → (t && true) ≡ t
      and_yes true = refl
      and_yes false = refl

-- two sheets that open
module _ (P Q : List ℤ) (np mp nq mq : ℕ) (op : Opens P np mp) (oq : Opens Q nq mq) where
  near : (w : List ℤ) (n m : ℕ) → Opens w n m → (i : ℕ) → i < length (points_of w) → SpotIn (spot_at (points_of w) i)
  near w n m o i h = subst SpotIn (sym (spot_of_lem w i (omega (arith, length_points w)))) (spot_in o i (omega (arith, length_points w, o.n_is)))

  pub small_ring : (j i : ℕ) → j < length (points_of Q) → i < length (points_of P) → small_for 8_000_000_000_000_000_000 full (points_of P) (points_of Q) j i ≡ ring_pair (points_of P) (points_of Q) j i
  unfolding pair_for
  small_ring =
      small_all 8_000_000_000_000_000_000 full (points_of P) (points_of Q)
      (λ j i hj hi. (profile_lawful false).size_most (spot_at (points_of Q) j) (spot_at (points_of P) i) (near Q nq mq oq j hj) (near P np mp op i hi))

  pub pairs_partners : (j : ℕ) → j < nq → (b : List ℕ) (count : ℕ)
      → PairsOn (small_for 8_000_000_000_000_000_000 full (points_of P) (points_of Q)) (pair_by (profile_for full) (points_of P) (points_of Q)) j np b count → count ≡ partners_of (points_of P) (points_of Q) j
  unfolding partners_of
  pairs_partners j h b count on =
      let small : ℕ → ℕ → Bool = small_for 8_000_000_000_000_000_000 full (points_of P) (points_of Q) in
      let pair : ℕ → ℕ → Pair = pair_by circle (points_of P) (points_of Q) in
      let n : np ≡ length (points_of P) = sym (points_many P np mp op) in
      on.counted
      ∙ ap (λ (k : ℕ). length (row small pair j k 0)) n
      ∙ ap length (row_same small (ring_pair (points_of P) (points_of Q)) pair j (length (points_of P)) 0 (λ x l g. small_ring j x (omega (arith, points_many Q nq mq oq)) (omega arith)))
