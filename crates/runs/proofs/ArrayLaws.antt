-- The first so many of 256 slots, lent: the slots when they are back, and the lent words.
-- Assumes nothing.
use mathlib.Core.Path.{◌≡◌, ap, ap₂, ◌∙◌}
use mathlib.Core.List.{List, ◌++◌}
use Prim.Native.Nat.{ℕ}
use lib.IntN.{ℤ}
use lib.ListN.{length, take, drop}
use Rattle.list.specs.declared.Pair.{Pair}
use Rattle.list.specs.Lent.{lent_of}
use Rattle.runs.specs.declared.Run.{Run}
use Rattle.runs.specs.declared.RunArray.{RunArray}
use Rattle.runs.specs.Run.{run_answer, run_slots, run_bits, with_slots, run_array}

module _ (P Q : List ℤ) (v : ℕ) (l : List Pair) (len m : ℕ) (e : m ≡ lent_of 256 len) (ws : List ℕ) where
  pub runs_array_is : (r : Run) (zs : List Pair) (t : RunArray) → r ≡ run_answer P Q v (length (take m l)) (length ws) → zs ≡ run_slots P Q v (take m l) (length ws)
      → t ≡ with_slots (zs ++ drop m l) r → t ≡ run_array P Q v l len (length ws)
  unfolding run_array
  runs_array_is r zs t x y z =
      z ∙ ap₂ (λ (u : List Pair) (w : Run). with_slots (u ++ drop m l) w) y x
      ∙ ap (λ (k : ℕ). with_slots (run_slots P Q v (take k l) (length ws) ++ drop k l) (run_answer P Q v (length (take k l)) (length ws))) e

  pub runs_array_words : (b : List ℕ) → b ≡ run_bits P Q v (length (take m l)) ws → b ≡ run_bits P Q v (length (take (lent_of 256 len) l)) ws
  runs_array_words b x = x ∙ ap (λ (k : ℕ). run_bits P Q v (length (take k l)) ws) e
