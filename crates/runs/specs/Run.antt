-- One run per leaf: the number of the call, its answer, and the slots after it.
-- "For one leaf of Q, named by node number, give the ring pairs of its points by place, then p id, in a lent slice of pairs; the rest of the slice isn't touched."
use Rattle.std.specs.Prelude.{not, ◌&&◌, List, [], ◌∷◌, ◌++◌, ℕ, ◌*◌, eqb, ltb, ℤ, length, take, drop}
use Rattle.words.specs.First.{given, first, answer}
use Rattle.sheet.specs.Layout.{points, nodes}
use Rattle.sheet.specs.Nodes.{level_of}
use Rattle.sheet.specs.Open.{sheet_no}
use Rattle.list.specs.declared.Pair.{Pair}
use Rattle.list.specs.Lent.{lent_of}
use Rattle.leaf.specs.LeafRun.{leaf_list, leaf_opened}
use Rattle.ring.specs.Lent.{need, bits_no, wiped_by}
use Rattle.runs.specs.declared.Run.{Run}
use Rattle.runs.specs.declared.RunArray.{RunArray}

-- "19 no such leaf": the number names no node of Q, or one that is no leaf [L8]
unfoldable pub leaf_no : List ℤ → ℕ → ℕ
leaf_no Q v = given (not (ltb v (nodes Q) && eqb (level_of Q (points Q) v) 0)) 19

-- "then 16 exactly when the pairs outnumber the slots" [L9]
unfoldable pub room_no : List Pair → ℕ → ℕ
room_no l len = given (ltb len (length l)) 16

-- how many words a run needs: "sixteen times as many for a leaf run" [Y8]
abbrev pub run_need : List ℤ → ℕ
run_need P = 16 * need P

-- "Refusals: 19 no such leaf, then 16 exactly when the pairs outnumber the slots", after the sheets' own: "1 to 8 for P, then for Q"; "24 bit slice too short, after all others but
-- 16 and 25": for so many slots and lent words [L8, L9, Y8, Y15]
unfoldable pub run_no : List ℤ → List ℤ → ℕ → ℕ → ℕ → ℕ
run_no P Q v len bits = first (sheet_no P ∷ sheet_no Q ∷ leaf_no Q v ∷ bits_no (run_need P) bits ∷ room_no (leaf_list P Q v) len ∷ [])

-- how many pairs the run has, and "Its count is that walk's opened nodes plus those of each kept partner's ring walk"
unfoldable pub run_given : List ℤ → List ℤ → ℕ → Run
run_given P Q v = record { number = 0; count = length (leaf_list P Q v); opened = leaf_opened (need P) P Q v }

-- "Every refusal gives only its number [..]. An array or number in a refused answer is all zero" [L10]
unfoldable pub run_refused : ℕ → Run
run_refused k = record { number = k; count = 0; opened = 0 }

-- the answer by its number: 0 is the run's, any other is the refusal of that number
unfoldable pub run_answer : List ℤ → List ℤ → ℕ → ℕ → ℕ → Run
run_answer P Q v len bits = answer (run_no P Q v len bits) (run_given P Q v) run_refused

-- the slots after it: the pairs stand from the first slot on, "the rest of the slice isn't touched"; a refusal "leaves lent memory [..] as they stood" [L1, L2, L10]
unfoldable pub run_slots : List ℤ → List ℤ → ℕ → List Pair → ℕ → List Pair
run_slots P Q v slots bits = answer (run_no P Q v (length slots) bits) (leaf_list P Q v ++ drop (length (leaf_list P Q v)) slots) (λ k. slots)

-- the lent words after it [Y10]
unfoldable pub run_bits : List ℤ → List ℤ → ℕ → ℕ → List ℕ → List ℕ
run_bits P Q v len ws = wiped_by (run_no P Q v len (length ws)) (run_need P) ws

-- ---- a part of an array, lent

abbrev pub with_slots : List Pair → Run → RunArray
with_slots slots r = record { slots = slots; run = r }

-- `leaf_run` on the first so many of 256 slots: the others are as they were
unfoldable pub run_array : List ℤ → List ℤ → ℕ → List Pair → ℕ → ℕ → RunArray
run_array P Q v slots len bits =
    with_slots (run_slots P Q v (take (lent_of 256 len) slots) bits ++ drop (lent_of 256 len) slots) (run_answer P Q v (length (take (lent_of 256 len) slots)) bits)
