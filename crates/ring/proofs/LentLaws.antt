-- The number of the words lent, and what a call leaves there by its number.
-- Assumes nothing.
use mathlib.Core.Path.{◌≡◌, sym}
use mathlib.Core.List.{List, ◌++◌}
use Prim.Native.Nat.{ℕ, ◌<◌, ◌≤◌}
use lib.ListN.{length, drop}
use borrow.Author.Tests.{lt-ltb, le-ltb}
use Rattle.words.proofs.FirstLaws.{given_no, given_yes, answer_given, answer_refused}
use Rattle.bits.specs.Set.{wiped}
use Rattle.ring.specs.Lent.{bits_no, kept_by, wiped_by}

pub bits_short : (words len : ℕ) → len < words → bits_no words len ≡ 24
unfolding bits_no
bits_short words len h = given_yes 24 (lt-ltb len words h)

pub bits_enough : (words len : ℕ) → words ≤ len → bits_no words len ≡ 0
unfolding bits_no
bits_enough words len h = given_no 24 (le-ltb len words h)

module _ (ws : List ℕ) where
  -- a refusal leaves the words as they stood
  pub kept_refused : (set : List ℕ) (n k : ℕ) → n ≡ k → (k ≡ 0 → ⊥) → ws ≡ kept_by n set ws
  unfolding kept_by
  kept_refused set n k e ne = sym (answer_refused (set ++ drop (length set) ws) (λ m. ws) n k e ne)

  pub wiped_refused : (words n k : ℕ) → n ≡ k → (k ≡ 0 → ⊥) → ws ≡ wiped_by n words ws
  unfolding wiped_by
  wiped_refused words n k e ne = sym (answer_refused (wiped words ws) (λ m. ws) n k e ne)

  -- a filter walk leaves its kept set, any other call zeros
  pub kept_given : (set : List ℕ) (n : ℕ) → n ≡ 0 → set ++ drop (length set) ws ≡ kept_by n set ws
  unfolding kept_by
  kept_given set n e = sym (answer_given (set ++ drop (length set) ws) (λ m. ws) n e)

  pub wiped_given : (words n : ℕ) → n ≡ 0 → wiped words ws ≡ wiped_by n words ws
  unfolding wiped_by
  wiped_given words n e = sym (answer_given (wiped words ws) (λ m. ws) n e)
