-- The shortest circles of two sheets: the number of the call, and its answer.
use Rattle.std.specs.Prelude.{List, [], ◌∷◌, ℕ, ℤ, length, replicate}
use Rattle.words.specs.First.{first, answer}
use Rattle.sheet.specs.Places.{points_of}
use Rattle.sheet.specs.Open.{sheet_no}
use Rattle.list.specs.declared.Pair.{Pair}
use Rattle.list.specs.Pairs.{none}
use Rattle.list.specs.Pages.{size_no, padded}
use Rattle.list.specs.RingList.{ring_list}
use Rattle.ring.specs.Lent.{need, bits_no, wiped_by}
use Rattle.shortest.specs.declared.Shortlist.{Shortlist}
use Rattle.shortest.specs.Order.{shortest_of}

-- "Refusals: 10 for k", "k from 1 to 16", after the sheets' own: "1 to 8 for P, then for Q"; then 24 [H3, H5]
unfoldable pub short_no : List ℤ → List ℤ → ℕ → ℕ → ℕ
short_no P Q k len = first (sheet_no P ∷ sheet_no Q ∷ size_no k ∷ bits_no (need P) len ∷ [])

-- the ring pairs of two sheets
abbrev pub pairs_of : List ℤ → List ℤ → List Pair
pairs_of P Q = ring_list (points_of P) (points_of Q)

-- how many pairs, and the pairs; "Unused pairs are three zeros" [H1, H4]
unfoldable pub short_given : List ℤ → List ℤ → ℕ → Shortlist
short_given P Q k =
    record {
      number = 0;
      count = length (shortest_of k (pairs_of P Q));
      pairs = padded (shortest_of k (pairs_of P Q));
    }

-- "Every refusal gives only its number [..]. An array or number in a refused answer is all zero"
unfoldable pub short_refused : ℕ → Shortlist
short_refused n = record { number = n; count = 0; pairs = replicate 16 none }

-- the answer for so many lent words, by its number: 0 is the shortest pairs, any other is the refusal of that number
unfoldable pub short_answer : List ℤ → List ℤ → ℕ → ℕ → Shortlist
short_answer P Q k len = answer (short_no P Q k len) (short_given P Q k) short_refused

-- the lent words after it [Y10]
unfoldable pub short_bits : List ℤ → List ℤ → ℕ → List ℕ → List ℕ
short_bits P Q k ws = wiped_by (short_no P Q k (length ws)) (need P) ws
