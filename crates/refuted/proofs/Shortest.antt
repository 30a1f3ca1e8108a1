-- Wrong readings of the shortest circles.
use mathlib.Core.Path.{◌≡◌, refl}
use mathlib.Core.Bool.{Bool, true, false, ◌&&◌, ◌||◌}
use mathlib.Core.List.{List, [], ◌∷◌}
use Prim.Native.Nat.{ℕ}
use lib.Dec.{eqb, ltb}
use lib.ListN.{take}
use Rattle.list.specs.declared.Pair.{Pair}
use Rattle.list.specs.Pairs.{follows}
use Rattle.sorting.specs.Ranking.{put_by, sorted_by, first_by}
use Rattle.shortest.specs.Order.{shorter, shortest_of}
use Rattle.refuted.proofs.Cases.{to, key}

-- Ties by p id, then q id. "ties by q id and then p id". [H2]
abbrev ties_by_pump : Pair → Pair → Bool
ties_by_pump v w = ltb v.size w.size || (eqb v.size w.size && follows (key v.p v.q) (key w.p w.q))

pub ties_by_pump_wrong : (ties_by_pump (to 6 1 4) (to 5 2 4) ≡ true) × (shorter (to 6 1 4) (to 5 2 4) ≡ false)
unfolding shorter follows
ties_by_pump_wrong = (refl, refl)

-- The first k of the list. "the k pairs with the smallest squared size". [H1]
abbrev first_ones : ℕ → List Pair → List Pair
first_ones k l = take k l

pub first_ones_wrong : (first_ones 1 (to 5 1 16 ∷ to 6 2 4 ∷ []) ≡ to 5 1 16 ∷ []) × (shortest_of 1 (to 5 1 16 ∷ to 6 2 4 ∷ []) ≡ to 6 2 4 ∷ [])
unfolding first_by sorted_by put_by shorter follows
first_ones_wrong = (refl, refl)
