-- "give in order the k pairs with the smallest squared size, ties by q id and then p id, k from 1 to 16, fewer if the list is shorter"
use Rattle.std.specs.Prelude.{◌≡◌, Bool, ◌&&◌, ◌||◌, ◌⊎◌, List, ℕ, ◌<◌, eqb, ltb}
use Rattle.sorting.specs.Ranking.{first_by}
use Rattle.list.specs.declared.Pair.{Pair}
use Rattle.list.specs.Pairs.{key_of, follows}

-- v is shorter than w: by squared size, "ties by q id and then p id" [H2]
unfoldable pub shorter : Pair → Pair → Bool
shorter v w = ltb v.size w.size || (eqb v.size w.size && follows (key_of v) (key_of w))

-- what that says, in numbers [H2]
abbrev pub Before : Pair → Pair → Type 0
Before v w = (v.size < w.size) ⊎ ((v.size ≡ w.size) × ((v.q < w.q) ⊎ ((v.q ≡ w.q) × (v.p < w.p))))

-- "the k pairs with the smallest squared size [..], fewer if the list is shorter", "in order", the shortest first [H1]
abbrev pub shortest_of : ℕ → List Pair → List Pair
shortest_of k l = first_by shorter k l
