-- Which outcome an input has. Assumes nothing.
use mathlib.Core.Path.{◌≡◌, refl, sym, ap, ◌∙◌}
use mathlib.Core.Bool.{true, false}
use mathlib.Core.List.{List, [], ◌∷◌, ◌++◌}
use Prim.Native.Nat.{ℕ, zero, suc, ◌/◌, ◌≤◌}
use native.Mathlib.Omega.{arith}
use borrow.Author.Tests.{ltb-false}
use lib.Dec.{ltb}
use lib.IntN.{ℤ, pos}
use lib.ListN.{length, take, drop, length-append}
use lib.Seq.{take_at}
use Rattle.integers.proofs.Bools.{or_false_left, or_false_right}
use Rattle.words.specs.Bytes.{word_at, words_of}
use Rattle.words.proofs.FirstLaws.{answer_given, answer_refused}
use Rattle.sheet.specs.Layout.{form}
use Rattle.printout.specs.Split.{bad_input}
use Rattle.printout.specs.Outcome.{pairs_of, first_no, sheets_outcome, words_outcome, outcome}
use Rattle.printout.specs.declared.Outcome.{Outcome}
use Rattle.printout.specs.declared.Outcome.TheVariants.{BadInput, BadQ, BadP, Listed}
use Rattle.printout.proofs.FormLaws.{second_refused}

-- ---- two sheets, Q opened first

pub q_refused : (P Q : List ℤ) (k : ℕ) → k ≡ first_no Q → (k ≡ 0 → ⊥) → BadQ k ≡ sheets_outcome P Q
unfolding sheets_outcome
q_refused P Q k e f = sym (answer_refused _ BadQ _ k (sym e) f)

pub p_refused : (P Q : List ℤ) (k : ℕ) → first_no Q ≡ 0 → k ≡ first_no P → (k ≡ 0 → ⊥) → BadP k ≡ sheets_outcome P Q
unfolding sheets_outcome
p_refused P Q k z e f = sym (answer_given _ BadQ _ z ∙ answer_refused _ BadP _ k (sym e) f)

pub printout_listed : (P Q : List ℤ) (n : ℕ) → first_no Q ≡ 0 → first_no P ≡ 0 → n ≡ length (pairs_of P Q) → Listed n ≡ sheets_outcome P Q
unfolding sheets_outcome
printout_listed P Q n y z e = ap Listed e ∙ sym (answer_given _ BadQ _ y ∙ answer_given _ BadP _ z)

-- of a sheet of form 2 the listing prints the refusal by 2: of Q's, whatever P is, and of P's where Q opens
pub second_q : (P Q : List ℤ) → 6 ≤ length Q → form Q ≡ pos 2 → sheets_outcome P Q ≡ BadQ 2
second_q P Q long two = sym (q_refused P Q 2 (sym (second_refused Q long two)) (λ z. omega (arith, z)))

pub second_p : (P Q : List ℤ) → first_no Q ≡ 0 → 6 ≤ length P → form P ≡ pos 2 → sheets_outcome P Q ≡ BadP 2
second_p P Q opens long two = sym (p_refused P Q 2 opens (sym (second_refused P long two)) (λ z. omega (arith, z)))

-- ---- bytes

pub input_refused : (bytes : List ℕ) → bad_input (length bytes) ≡ true → BadInput ≡ outcome bytes
unfolding outcome
input_refused bytes e = rw e

pub input_taken : (bytes : List ℕ) → bad_input (length bytes) ≡ false → (r : Outcome) → r ≡ words_outcome (words_of bytes (length bytes / 4)) → r ≡ outcome bytes
unfolding outcome
input_taken bytes e r h = h ∙ rw e

-- an input that is taken has 6 to 15,612 words
pub long_enough : (n : ℕ) → bad_input n ≡ false → 24 ≤ n
unfolding bad_input
long_enough n e = ltb-false n 24 (or_false_left (ltb n 24) _ e)

pub short_enough : (n : ℕ) → bad_input n ≡ false → n ≤ 62448
unfolding bad_input
short_enough n e = ltb-false 62448 n (or_false_left (ltb 62448 n) _ (or_false_right (ltb n 24) _ e))

-- ---- the words that were decoded

length_words : (bs : List ℕ) (n : ℕ) → length (words_of bs n) ≡ n
unfolding words_of
length_words bs zero = refl
length_words bs (suc n) = omega (arith, length-append (words_of bs n) (word_at bs n ∷ []), length_words bs n)

pub room_for : (bs : List ℕ) (n : ℕ) (before after : List ℤ) → after ≡ words_of bs n ++ drop n before → n ≤ length after
room_for bs n before after e = omega (arith, ap length e, length-append (words_of bs n) (drop n before), length_words bs n)

pub decoded : (bs : List ℕ) (n : ℕ) (before after : List ℤ) → after ≡ words_of bs n ++ drop n before → take n after ≡ words_of bs n
decoded bs n before after e = ap (take n) e ∙ take_at (words_of bs n) (drop n before) n (length_words bs n)
