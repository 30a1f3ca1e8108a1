-- The orders are orders: what the code has to show of them.
--     busier_order     of ranks
--     ahead_order      of visits
use lib.Dec.{ltb}
use Rattle.list.specs.Pairs.{key_of, follows}
use Rattle.sorting.specs.Ranking.{Order}
use Rattle.sorting.proofs.LexLaws.{less_order, less_total, more_order, more_total, above, number_order, lex_order}
use Rattle.ranked.specs.declared.Rank.{Rank}
use Rattle.ranked.specs.declared.Visit.{Visit}
use Rattle.ranked.specs.Busiest.{busier}
use Rattle.ranked.specs.Urgent.{ahead}

pub busier_order : Order busier
unfolding busier
busier_order = lex_order (λ (v : Rank). v.pairs) above more_order more_total (λ (v w : Rank). ltb v.id w.id) (number_order (λ (v : Rank). v.id) ltb less_order)

follow_order : Order (λ (v w : Visit). follows (key_of v.pair) (key_of w.pair))
unfolding follows
follow_order = lex_order (λ (v : Visit). v.pair.q) ltb less_order less_total (λ (v w : Visit). ltb v.pair.p w.pair.p) (number_order (λ (v : Visit). v.pair.p) ltb less_order)

pub ahead_order : Order ahead
unfolding ahead
ahead_order = lex_order (λ (v : Visit). v.score) above more_order more_total (λ (v w : Visit). follows (key_of v.pair) (key_of w.pair)) follow_order
