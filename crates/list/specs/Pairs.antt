-- Keys and pairs: their order, and what follows a key in a list of pairs. "The list runs by q id, then p id."
use Rattle.std.specs.Prelude.{Bool, true, false, cond, ◌&&◌, ◌||◌, List, [], ◌∷◌, ℕ, eqb, ltb}
use Rattle.list.specs.declared.Key.{Key}
use Rattle.list.specs.declared.Pair.{Pair}

-- the key (0, 0)
abbrev pub start : Key
start = record { q = 0; p = 0 }

-- "Unused pairs are three zeros" [P6]
abbrev pub none : Pair
none = record { q = 0; p = 0; size = 0 }

-- a pair's key: its two ids
abbrev pub key_of : Pair → Key
key_of v = record { q = v.q; p = v.p }

-- `v` stands strictly after `k`: by q id, then p id [P2]
unfoldable pub follows : Key → Key → Bool
follows k v = ltb k.q v.q || (eqb k.q v.q && ltb k.p v.p)

-- the pairs ascend strictly, the first after `k`
unfoldable pub ascends : Key → List Pair → Bool
ascends k [] = true
ascends k (v ∷ l) = follows k (key_of v) && ascends (key_of v) l

-- the pairs of a list strictly after `k` [P2]
unfoldable pub after : Key → List Pair → List Pair
after k [] = []
after k (v ∷ l) = cond (follows k (key_of v)) (v ∷ after k l) (after k l)

-- the pairs of a list whose chamber has this id [T1]
unfoldable pub chamber_pairs : ℕ → List Pair → List Pair
chamber_pairs id [] = []
chamber_pairs id (v ∷ l) = cond (eqb v.q id) (v ∷ chamber_pairs id l) (chamber_pairs id l)

-- the last pair's key, or `k` if there is none
unfoldable pub last_or : Key → List Pair → Key
last_or k [] = k
last_or k (v ∷ l) = last_or (key_of v) l

unfoldable pub is_none : List Pair → Bool
is_none [] = true
is_none (v ∷ l) = false
