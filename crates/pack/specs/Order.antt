-- The order list that the packer takes, and refusal 6: "order, n words: the position standing at each place; rank, n words: the place of each position.
-- All are 0 to n-1, and order at rank of i is i for every i."
use Rattle.std.specs.Prelude.{Bool, ◌&&◌, List, ℕ, ltb, ℤ, pos}
use Rattle.words.specs.Word.{at, eq_z, is_below}
use Rattle.words.specs.All.{all_b, first_b}

-- the place of position i: the first of k places where the list has it, or k
unfoldable pub place_in : List ℤ → ℕ → ℕ → ℕ
place_in o i k = first_b k (λ p. eq_z (at o p) (pos i))

-- the word at place i is 0 to n-1, and position i stands at some place
unfoldable pub list_ok : List ℤ → ℕ → ℕ → Bool
list_ok o n i = is_below n (at o i) && ltb (place_in o i n) n

-- so it is for every i below n: the list is a permutation of 0 to n-1 [N16]
unfoldable pub order_list_ok : List ℤ → ℕ → Bool
order_list_ok o n = all_b n (list_ok o n)
