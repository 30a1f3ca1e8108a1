-- The order of the shortest is an order.
use lib.Dec.{ltb}
use Rattle.list.specs.declared.Pair.{Pair}
use Rattle.list.specs.Pairs.{key_of, follows}
use Rattle.sorting.specs.Ranking.{Order}
use Rattle.sorting.proofs.LexLaws.{less_order, less_total, number_order, lex_order}
use Rattle.shortest.specs.Order.{shorter}

follow_order : Order (λ (v w : Pair). follows (key_of v) (key_of w))
unfolding follows
follow_order = lex_order (λ (v : Pair). v.q) ltb less_order less_total (λ (v w : Pair). ltb v.p w.p) (number_order (λ (v : Pair). v.p) ltb less_order)

pub shorter_order : Order shorter
unfolding shorter
shorter_order = lex_order (λ (v : Pair). v.size) ltb less_order less_total (λ (v w : Pair). follows (key_of v) (key_of w)) follow_order
