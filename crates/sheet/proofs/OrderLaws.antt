-- What a right order and rank say: each is the other's inverse on the numbers below n. So every position stands at exactly one place.
-- Assumes nothing.
use mathlib.Core.Path.{◌≡◌, sym, ap, ◌∙◌}
use mathlib.Core.Bool.{Bool, true, false, not, ◌&&◌}
use mathlib.Core.List.{List}
use Prim.Native.Nat.{ℕ, ◌<◌}
use lib.IntN.{ℤ, pos}
use Rattle.words.specs.Word.{is_below, eq_z}
use Rattle.integers.proofs.Bools.{and_left, and_right, passed, failed}
use Rattle.words.proofs.Signs.{below_num, is_num}
use Rattle.words.proofs.AllLaws.{all_at}
use Rattle.sheet.specs.Order.{order_word, rank_word, order_of, rank_of, place_ok, order_ok}
use Rattle.sheet.proofs.Permute.{inverse}

-- the test at i, where both words have been found below n, or not
module _ (w : List ℤ) (n i : ℕ) {a b : Bool} (e : a ≡ is_below n (order_word w n i)) (f : b ≡ is_below n (rank_word w n i)) where
  both : (a && b) ≡ (is_below n (order_word w n i) && is_below n (rank_word w n i))
  both = λ j. e j && f j

  pub place_not : not (a && b) ≡ true → false ≡ place_ok w n i
  unfolding place_ok
  place_not t = sym (ap (λ (x : Bool). x && eq_z (order_word w n (rank_of w n i)) (pos i)) (failed both t))

  pub place_rank : not (a && b) ≡ false → rank_of w n i < n
  unfolding rank_of
  place_rank t = below_num n (rank_word w n i) (and_right (is_below n (order_word w n i)) (is_below n (rank_word w n i)) (passed both t))

  pub place_is : not (a && b) ≡ false → eq_z (order_word w n (rank_of w n i)) (pos i) ≡ place_ok w n i
  unfolding place_ok
  place_is t = sym (ap (λ (x : Bool). x && eq_z (order_word w n (rank_of w n i)) (pos i)) (passed both t))

module _ (w : List ℤ) (n : ℕ) (ok : order_ok w n ≡ true) where
  pub order_below : (k : ℕ) → k < n → order_of w n k < n
  unfolding order_ok place_ok order_of
  order_below k h =
      below_num n (order_word w n k) (and_left (is_below n (order_word w n k)) (is_below n (rank_word w n k)) (and_left _ (eq_z (order_word w n (rank_of w n k)) (pos k)) (all_at (place_ok w n) n ok k h)))

  pub rank_below : (i : ℕ) → i < n → rank_of w n i < n
  unfolding order_ok place_ok rank_of
  rank_below i h =
      below_num n (rank_word w n i) (and_right (is_below n (order_word w n i)) (is_below n (rank_word w n i)) (and_left _ (eq_z (order_word w n (rank_of w n i)) (pos i)) (all_at (place_ok w n) n ok i h)))

  pub order_rank : (i : ℕ) → i < n → order_of w n (rank_of w n i) ≡ i
  unfolding order_ok place_ok order_of
  order_rank i h =
      is_num (order_word w n (rank_of w n i)) i (and_right (is_below n (order_word w n i) && is_below n (rank_word w n i)) _ (all_at (place_ok w n) n ok i h))

  -- the document asks only the line above; this one follows, since the numbers below n are finitely many
  pub rank_order : (k : ℕ) → k < n → rank_of w n (order_of w n k) ≡ k
  rank_order k h = (inverse n (rank_of w n) (order_of w n) rank_below order_rank k h).1

  -- a position stands at one place only
  pub one_place : (j k : ℕ) → j < n → k < n → order_of w n j ≡ order_of w n k → j ≡ k
  one_place j k a b e = sym (rank_order j a) ∙ ap (rank_of w n) e ∙ rank_order k b
