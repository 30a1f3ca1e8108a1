-- The pairs held, as the code has them. No promise of the open call cites this.
use Rattle.std.specs.Prelude.{cond, List, ℕ, ◌-◌, ltb, get_or}
use Rattle.sorting.specs.declared.Firsts.{Firsts}
use Rattle.sorting.specs.Firsts.{firsts_of, held_firsts, HeldFirsts}
use Rattle.list.specs.declared.Pair.{Pair}
use Rattle.list.specs.Pairs.{none}
use Rattle.shortest.specs.Order.{shorter}

-- an unused place
abbrev pub no_pair : Pair
no_pair = none

-- the pairs held
abbrev pub held : Firsts Pair → List Pair
held g = held_firsts g

-- what holds these pairs
abbrev pub search_of : List Pair → Firsts Pair
search_of s = firsts_of none s

-- at most k pairs are held, in order, and the unused ones are three zeros
abbrev pub HeldOrdered : ℕ → Firsts Pair → Type 0
HeldOrdered k g = HeldFirsts shorter none k g

-- no longer pair is among the k: the size of the last where k are held, and the greatest size that is taken where fewer are
unfoldable pub bound_of : ℕ → Firsts Pair → ℕ
bound_of k g = cond (ltb g.count k) 8_000_000_000_000_000_000 (get_or g.rows (k - 1) none).size
