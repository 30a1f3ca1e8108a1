-- Wrong readings of the busiest chambers and pump houses, and of the most urgent visits.
-- Of the document's two sets the list is (5, 1), (5, 2), (6, 2), of the sizes 16, 36, 37: chamber 5 has two pairs and chamber 6 one, pump house 1 has one and pump house 2 two.
use mathlib.Core.Path.{◌≡◌, refl}
use mathlib.Core.Bool.{Bool, true, false, cond, ◌&&◌, ◌||◌}
use mathlib.Core.List.{List, [], ◌∷◌, map}
use Prim.Native.Nat.{ℕ, suc}
use lib.Dec.{eqb, leb, ltb}
use lib.ListN.{length, take, get_or}
use Rattle.words.specs.All.{all_b}
use Rattle.plane.specs.Rule.{same_spot, blocks}
use Rattle.plane.specs.Point.{id_at}
use Rattle.list.specs.declared.Pair.{Pair}
use Rattle.list.specs.Pairs.{follows, chamber_pairs}
use Rattle.list.specs.Rows.{row, rows, at_least, list_by}
use Rattle.list.specs.RingList.{unblocked, ring_pair_by}
use Rattle.list.specs.Terms.{full, pair_for}
use Rattle.chamber.specs.Sized.{small_for, listed_to, list_to}
use Rattle.many.specs.Many.{last_largest}
use Rattle.ranked.specs.declared.Rank.{Rank}
use Rattle.ranked.specs.declared.Visit.{Visit}
use Rattle.sorting.specs.Ranking.{put_by, sorted_by, first_by}
use Rattle.ranked.specs.Busiest.{busier, ranks_from, pump_pairs, chamber_rank, chamber_ranks, pump_ranks}
use Rattle.ranked.specs.Urgent.{ahead, score_of, scores_ok, visit_of}
use Rattle.refuted.proofs.Cases.{to, pumps, chambers}

-- the document's list to a size; a rank; a visit
abbrev sized_to : ℕ → List Pair
sized_to big = list_to big full [] pumps chambers

abbrev rank : ℕ → ℕ → Rank
rank id pairs = record { id = id; pairs = pairs }

abbrev visit : Pair → ℕ → Visit
visit v score = record { pair = v; score = score }

-- the busiest chambers of the document's list to a size, by the definition
abbrev busiest_to : ℕ → ℕ → List Rank
busiest_to k big = first_by busier k (chamber_ranks 2 [] chambers (sized_to big))

-- ---- the busiest

-- Ties by the higher id. "ties by id": to size 15 no chamber has a pair. [BU2]
abbrev ties_turned : Rank → Rank → Bool
ties_turned v w = ltb w.pairs v.pairs || (eqb v.pairs w.pairs && ltb w.id v.id)

pub busy_ties_turned_wrong : (first_by ties_turned 2 (chamber_ranks 2 [] chambers (sized_to 15)) ≡ rank 6 0 ∷ rank 5 0 ∷ []) × (busiest_to 2 15 ≡ rank 5 0 ∷ rank 6 0 ∷ [])
unfolding first_by sorted_by put_by busier chamber_ranks ranks_from chamber_pairs list_to listed_to small_for at_least list_by rows row pair_for ring_pair_by unblocked all_b same_spot blocks
busy_ties_turned_wrong = (refl, refl)

-- The fewest first. "the most ring partners, in order". [BU1]
abbrev quieter : Rank → Rank → Bool
quieter v w = ltb v.pairs w.pairs || (eqb v.pairs w.pairs && ltb v.id w.id)

pub fewest_first_wrong : (first_by quieter 1 (chamber_ranks 2 [] chambers (sized_to last_largest)) ≡ rank 6 1 ∷ []) × (busiest_to 1 last_largest ≡ rank 5 2 ∷ [])
unfolding first_by sorted_by put_by busier chamber_ranks ranks_from chamber_pairs list_to listed_to small_for at_least list_by rows row pair_for ring_pair_by unblocked all_b same_spot blocks
fewest_first_wrong = (refl, refl)

-- One row more. "the k chambers". [BU1]
abbrev one_more : ℕ → ℕ → List Rank
one_more k big = busiest_to (suc k) big

pub one_row_more_wrong : (one_more 1 last_largest ≡ rank 5 2 ∷ rank 6 1 ∷ []) × (busiest_to 1 last_largest ≡ rank 5 2 ∷ [])
unfolding first_by sorted_by put_by busier chamber_ranks ranks_from chamber_pairs list_to listed_to small_for at_least list_by rows row pair_for ring_pair_by unblocked all_b same_spot blocks
one_row_more_wrong = (refl, refl)

-- Only chambers that have a pair. "those with none too": to size 36 chamber 6 has none. [BU3]
abbrev with_any : ℕ → ℕ → List Rank
with_any k big = first_by busier k (ranks_from (λ j. ltb 0 (length (chamber_pairs (id_at chambers j) (sized_to big)))) (λ j. chamber_rank (sized_to big) (id_at chambers j)) 2 0)

pub none_left_out_wrong : (with_any 2 36 ≡ rank 5 2 ∷ []) × (busiest_to 2 36 ≡ rank 5 2 ∷ rank 6 0 ∷ [])
unfolding first_by sorted_by put_by busier chamber_ranks ranks_from chamber_pairs list_to listed_to small_for at_least list_by rows row pair_for ring_pair_by unblocked all_b same_spot blocks
none_left_out_wrong = (refl, refl)

-- Counted in the whole list. The number of pairs is that in the list to the size asked for. [BU4]
abbrev of_whole : ℕ → ℕ → List Rank
of_whole k big = busiest_to k last_largest

pub whole_counted_wrong : (of_whole 2 16 ≡ rank 5 2 ∷ rank 6 1 ∷ []) × (busiest_to 2 16 ≡ rank 5 1 ∷ rank 6 0 ∷ [])
unfolding first_by sorted_by put_by busier chamber_ranks ranks_from chamber_pairs list_to listed_to small_for at_least list_by rows row pair_for ring_pair_by unblocked all_b same_spot blocks
whole_counted_wrong = (refl, refl)

-- Both contractors' chambers. "of the contractor's chambers": contractor 1 has chamber 6 alone. [BU4]
abbrev any_ones : ℕ → List ℕ → List Rank
any_ones c o = first_by busier 2 (chamber_ranks 2 [] chambers (sized_to last_largest))

pub both_ranked_wrong : (any_ones 1 (0 ∷ 1 ∷ []) ≡ rank 5 2 ∷ rank 6 1 ∷ []) × (first_by busier 2 (chamber_ranks 1 (0 ∷ 1 ∷ []) chambers (sized_to last_largest)) ≡ rank 6 1 ∷ [])
unfolding first_by sorted_by put_by busier chamber_ranks ranks_from chamber_pairs list_to listed_to small_for at_least list_by rows row pair_for ring_pair_by unblocked all_b same_spot blocks
both_ranked_wrong = (refl, refl)

-- Pump houses by the pairs of the chamber at their position. "how many chambers each is listed with": pump house 2 is listed with two. [BU5]
abbrev by_position : ℕ → List Rank
by_position big = first_by busier 2 (ranks_from (λ i. true) (λ i. rank (id_at pumps i) (length (chamber_pairs (id_at chambers i) (sized_to big)))) 2 0)

pub pumps_as_chambers_wrong : (by_position last_largest ≡ rank 1 2 ∷ rank 2 1 ∷ []) × (first_by busier 2 (pump_ranks pumps (sized_to last_largest)) ≡ rank 2 2 ∷ rank 1 1 ∷ [])
unfolding first_by sorted_by put_by busier pump_ranks pump_pairs ranks_from chamber_pairs list_to listed_to small_for at_least list_by rows row pair_for ring_pair_by unblocked all_b same_spot blocks
pumps_as_chambers_wrong = (refl, refl)

-- A bound that loses a chamber: one with as many candidates as the last of k has pairs is passed over before k are held. Counted is what the candidates leave: of no chamber is one passed over
-- while fewer than k are held. [BU1]
abbrev passed_over : ℕ → List Rank → List Rank → List Rank
passed_over k [] s = s
passed_over k (v ∷ l) s = cond (leb v.pairs (get_or s 0 (rank 0 0)).pairs) (passed_over k l s) (passed_over k l (take k (put_by busier v s)))

pub bound_loses_wrong : (passed_over 2 (chamber_ranks 2 [] chambers (sized_to last_largest)) [] ≡ rank 5 2 ∷ []) × (busiest_to 2 last_largest ≡ rank 5 2 ∷ rank 6 1 ∷ [])
unfolding first_by sorted_by put_by busier chamber_ranks ranks_from chamber_pairs list_to listed_to small_for at_least list_by rows row pair_for ring_pair_by unblocked all_b same_spot blocks
bound_loses_wrong = (refl, refl)

-- ---- the most urgent

-- the document's list with scores, in order
abbrev urged : (Pair → Visit) → ℕ → ℕ → List Visit
urged f k big = first_by ahead k (map f (sized_to big))

-- The scores of one sheet for the other. "a lent score a record, by position, for each sheet": pump house 1 has 9, chamber 6 has 5. [BU7]
pub scores_exchanged_wrong :
    (urged (visit_of pumps chambers (0 ∷ 5 ∷ []) (9 ∷ 0 ∷ [])) 1 last_largest ≡ visit (to 5 2 36) 14 ∷ [])
    × (urged (visit_of pumps chambers (9 ∷ 0 ∷ []) (0 ∷ 5 ∷ [])) 1 last_largest ≡ visit (to 5 1 16) 9 ∷ [])
unfolding first_by sorted_by put_by ahead follows visit_of score_of list_to listed_to small_for at_least list_by rows row pair_for ring_pair_by unblocked all_b same_spot blocks
scores_exchanged_wrong = (refl, refl)

-- The higher of the two scores. "the highest sum of scores". [BU6]
abbrev higher : List ℕ → List ℕ → Pair → Visit
higher ps qs v = visit v (cond (ltb (score_of chambers qs v.q) (score_of pumps ps v.p)) (score_of pumps ps v.p) (score_of chambers qs v.q))

pub higher_score_wrong :
    (urged (higher (6 ∷ 4 ∷ []) (0 ∷ 4 ∷ [])) 1 last_largest ≡ visit (to 5 1 16) 6 ∷ [])
    × (urged (visit_of pumps chambers (6 ∷ 4 ∷ []) (0 ∷ 4 ∷ [])) 1 last_largest ≡ visit (to 6 2 37) 8 ∷ [])
unfolding first_by sorted_by put_by ahead follows visit_of score_of list_to listed_to small_for at_least list_by rows row pair_for ring_pair_by unblocked all_b same_spot blocks
higher_score_wrong = (refl, refl)

-- Ties by the size. "ties by q id and then p id": all sums are 3, and of the whole list the last pair is asked for first where longer ones go first. [BU8]
abbrev longer_first : Visit → Visit → Bool
longer_first v w = ltb w.score v.score || (eqb v.score w.score && ltb w.pair.size v.pair.size)

pub urgent_ties_turned_wrong :
    (first_by longer_first 1 (map (visit_of pumps chambers (1 ∷ 1 ∷ []) (2 ∷ 2 ∷ [])) (sized_to last_largest)) ≡ visit (to 6 2 37) 3 ∷ [])
    × (urged (visit_of pumps chambers (1 ∷ 1 ∷ []) (2 ∷ 2 ∷ [])) 1 last_largest ≡ visit (to 5 1 16) 3 ∷ [])
unfolding first_by sorted_by put_by ahead follows visit_of score_of list_to listed_to small_for at_least list_by rows row pair_for ring_pair_by unblocked all_b same_spot blocks
urgent_ties_turned_wrong = (refl, refl)

-- The most urgent of the whole list, of which those that are too long are then left out. "among those of at most a given size": the first k are of the list to the size. [BU6]
abbrev those_to : ℕ → List Visit → List Visit
those_to big [] = []
those_to big (v ∷ l) = cond (leb v.pair.size big) (v ∷ those_to big l) (those_to big l)

pub sized_after_wrong :
    (those_to 36 (urged (visit_of pumps chambers (0 ∷ 0 ∷ []) (1 ∷ 7 ∷ [])) 1 last_largest) ≡ [])
    × (urged (visit_of pumps chambers (0 ∷ 0 ∷ []) (1 ∷ 7 ∷ [])) 1 36 ≡ visit (to 5 1 16) 1 ∷ [])
unfolding first_by sorted_by put_by ahead follows visit_of score_of list_to listed_to small_for at_least list_by rows row pair_for ring_pair_by unblocked all_b same_spot blocks
sized_after_wrong = (refl, refl)

-- A chamber is passed over by its own score alone. "no pair that could is passed over": chamber 6 has 0, less than the 5 that is held, and pump house 2 brings it to 9. [BU6]
abbrev by_own_score : ℕ → List ℕ → List ℕ → List Pair → List Visit → List Visit
by_own_score k ps qs [] s = s
by_own_score k ps qs (v ∷ l) s =
    cond (ltb (score_of chambers qs v.q) (get_or s 0 (visit (to 0 0 0) 0)).score) (by_own_score k ps qs l s) (by_own_score k ps qs l (take k (put_by ahead (visit_of pumps chambers ps qs v) s)))

pub own_score_bound_wrong :
    (by_own_score 1 (5 ∷ 9 ∷ []) (0 ∷ 0 ∷ []) (sized_to last_largest) [] ≡ visit (to 5 1 16) 5 ∷ [])
    × (urged (visit_of pumps chambers (5 ∷ 9 ∷ []) (0 ∷ 0 ∷ [])) 1 last_largest ≡ visit (to 5 2 36) 9 ∷ [])
unfolding first_by sorted_by put_by ahead follows visit_of score_of list_to listed_to small_for at_least list_by rows row pair_for ring_pair_by unblocked all_b same_spot blocks
own_score_bound_wrong = (refl, refl)

-- A score of 1,000,000,000 refused, or a sheet with a score too few taken. "0 to 1,000,000,000", "a score a record". [BU7, BU9]
abbrev below : List ℕ → ℕ → Bool
below s n = all_b n (λ i. ltb (get_or s i 0) 1_000_000_000)

pub scores_below_wrong : ((below (1_000_000_000 ∷ []) 1 ≡ false) × (scores_ok (1_000_000_000 ∷ []) 1 ≡ true)) × ((below (3 ∷ []) 2 ≡ true) × (scores_ok (3 ∷ []) 2 ≡ false))
unfolding scores_ok all_b
scores_below_wrong = ((refl, refl), (refl, refl))
