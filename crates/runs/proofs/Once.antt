-- One input, one answer and one final state of the slots and of the lent words: from the promise alone. And the number that the answer has.
-- Assumes nothing.
use mathlib.Core.Path.{◌≡◌, refl, sym, ◌∙◌}
use mathlib.Core.List.{List}
use Prim.Native.Nat.{ℕ}
use lib.IntN.{ℤ}
use lib.ListN.{length, take}
use Rattle.words.proofs.FirstLaws.{answer_number}
use Rattle.list.specs.declared.Pair.{Pair}
use Rattle.list.specs.Lent.{lent_of}
use Rattle.runs.specs.declared.Run.{Run}
use Rattle.runs.specs.declared.RunArray.{RunArray}
use Rattle.runs.specs.Run.{run_no, run_given, run_refused, run_answer, run_slots, run_bits, run_array}

module _ (P Q : List ℤ) (v : ℕ) (s : List Pair) (ws : List ℕ) where
  abbrev Answers : Run → List Pair → List ℕ → Type 0
  Answers r t b = (r ≡ run_answer P Q v (length s) (length ws)) × (t ≡ run_slots P Q v s (length ws)) × (b ≡ run_bits P Q v (length s) ws)

  pub run_call_once : (r r' : Run) (t t' : List Pair) (b b' : List ℕ) → Answers r t b → Answers r' t' b' → (r ≡ r') × (t ≡ t') × (b ≡ b')
  run_call_once r r' t t' b b' x y = (x.0 ∙ sym y.0, x.1 ∙ sym y.1, x.2 ∙ sym y.2)

  abbrev Arrays : ℕ → RunArray → List ℕ → Type 0
  Arrays len r b = (r ≡ run_array P Q v s len (length ws)) × (b ≡ run_bits P Q v (length (take (lent_of 256 len) s)) ws)

  pub run_array_call_once : (len : ℕ) (r r' : RunArray) (b b' : List ℕ) → Arrays len r b → Arrays len r' b' → (r ≡ r') × (b ≡ b')
  run_array_call_once len r r' b b' x y = (x.0 ∙ sym y.0, x.1 ∙ sym y.1)

pub run_call_no : (P Q : List ℤ) (v len bits : ℕ) → (run_answer P Q v len bits).number ≡ run_no P Q v len bits
unfolding run_answer run_given run_refused
run_call_no P Q v len bits = answer_number (run_given P Q v) run_refused (λ r. r.number) refl (λ k. refl) (run_no P Q v len bits)
