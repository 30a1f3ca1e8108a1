-- Wrong readings of many pairs at once, and of how many there are.
use mathlib.Core.Path.{◌≡◌, refl}
use mathlib.Core.Bool.{Bool, true, false, cond, not, ◌&&◌}
use mathlib.Core.List.{List, [], ◌∷◌, ◌++◌}
use Prim.Native.Nat.{ℕ, ◌-◌}
use lib.Dec.{eqb, leb, ltb}
use lib.IntN.{ℤ}
use lib.ListN.{length, take, drop, replicate}
use Rattle.words.specs.Word.{num, eq_z, within, before, is_below, min_z, max_z}
use Rattle.words.specs.All.{all_b, tab}
use Rattle.words.specs.First.{given, first}
use Rattle.words.specs.Range.{id_word, edition_word, coord_word}
use Rattle.plane.specs.Rule.{same_spot, blocks}
use Rattle.plane.specs.Point.{Point}
use Rattle.sheet.specs.Limits.{form1, limits_of}
use Rattle.sheet.specs.Layout.{counts_ok, root_word, layout_ok, trailer_no}
use Rattle.sheet.specs.Points.{fields_ok, rises_ok, point_ok, points_ok}
use Rattle.sheet.specs.Order.{order_of, rank_of, place_ok, order_ok}
use Rattle.sheet.specs.Nodes.{level_of, first_of, count_of, same_level, due_next, due_of, run_ok, is_last, end_ok, node_rule, node_ok, table_ok, nodes_ok}
use Rattle.sheet.specs.Boxes.{side_of, coord_of, better, best, tight_side, tight_ok}
use Rattle.sheet.specs.Open.{body_no, open_no}
use Rattle.sheet.specs.Places.{spot_of, points_of}
use Rattle.bits.specs.Set.{words_for}
use Rattle.list.specs.declared.Key.{Key}
use Rattle.list.specs.declared.Pair.{Pair}
use Rattle.list.specs.Pairs.{start, none, key_of, follows, after, chamber_pairs, is_none}
use Rattle.list.specs.Pages.{threshold_no, contractor_no, owners_no}
use Rattle.list.specs.Rows.{row, rows, at_least, list_by}
use Rattle.list.specs.RingList.{unblocked, ring_pair_by}
use Rattle.list.specs.Terms.{full, with_t, alone, of_contractor, pair_for, listed_for, list_for}
use Rattle.ring.specs.Lent.{need, bits_no}
use Rattle.ring.specs.Numbers.{grid_no}
use Rattle.ring.specs.Page.{key_no}
use Rattle.chamber.specs.Sized.{small_for, listed_to, list_to}
use Rattle.many.specs.declared.Which.{Which}
use Rattle.many.specs.declared.Wanted.{Wanted}
use Rattle.many.specs.Many.{last_largest, largest_no, pairs_no, count_no, own_pairs_no, own_count_no, pairs_list, many_given, stored, count_given}
use Rattle.refuted.proofs.Cases.{to, key, pumps, chambers, pump_sheet, chamber_sheet}

-- the pairs of a list of which a test holds
abbrev those : (Pair → Bool) → List Pair → List Pair
those test [] = []
those test (v ∷ l) = cond (test v) (v ∷ those test l) (those test l)

-- what is wanted of the document's two sets, from a key on, to a size
abbrev wanted : Key → ℕ → ℕ → Wanted
wanted k big t = record { key = k; largest = big; threshold = t; contractor = 2; grid = false }

-- its list, with no key
abbrev sized : ℕ → ℕ → List Pair
sized big t = list_to big (with_t t) [] pumps chambers

-- ---- which pairs

-- From the key on. "those pairs strictly after the key". [MP1, MP7]
abbrev from_key : Key → List Pair → List Pair
from_key k l = those (λ v. not (follows (key_of v) k)) l

pub pairs_from_key_wrong :
    (from_key (key 5 1) (sized last_largest 0) ≡ to 5 1 16 ∷ to 5 2 36 ∷ to 6 2 37 ∷ []) × (pairs_list pump_sheet chamber_sheet [] (wanted (key 5 1) last_largest 0) ≡ to 5 2 36 ∷ to 6 2 37 ∷ [])
unfolding pairs_list after follows list_to listed_to small_for at_least list_by rows row pair_for ring_pair_by unblocked all_b same_spot blocks points_of tab spot_of num
pairs_from_key_wrong = (refl, refl)

-- Below the largest size. "whose size is at most `largest`". [MP1]
abbrev below : ℕ → List Pair
below big = those (λ v. ltb v.size big) (list_for full [] pumps chambers)

pub below_largest_wrong : (below 36 ≡ to 5 1 16 ∷ []) × (sized 36 0 ≡ to 5 1 16 ∷ to 5 2 36 ∷ [])
unfolding list_to listed_to small_for at_least list_by rows row list_for listed_for pair_for ring_pair_by unblocked all_b same_spot blocks
below_largest_wrong = (refl, refl)

-- The threshold counts pairs of all sizes. "with t above 0 the chambers that have at least t such pairs": chamber 5 has two pairs, and one of size 16 at most. [MP2]
abbrev of_all_sizes : ℕ → ℕ → List Pair
of_all_sizes big t = those (λ v. leb v.size big) (list_for (with_t t) [] pumps chambers)

pub all_sizes_wrong : (of_all_sizes 16 2 ≡ to 5 1 16 ∷ []) × (sized 16 2 ≡ [])
unfolding list_to listed_to small_for at_least list_by rows row list_for listed_for pair_for ring_pair_by unblocked all_b same_spot blocks
all_sizes_wrong = (refl, refl)

-- The threshold counts the pairs after the key alone. "at least t such pairs, whatever the key": chamber 5 has two, and one after (5, 1). [MP2]
abbrev counted_late : Key → ℕ → ℕ → List Pair
counted_late k big t = those (λ v. leb t (length (chamber_pairs v.q (after k (sized big 0))))) (after k (sized big 0))

pub counted_late_wrong : (counted_late (key 5 1) last_largest 2 ≡ []) × (pairs_list pump_sheet chamber_sheet [] (wanted (key 5 1) last_largest 2) ≡ to 5 2 36 ∷ [])
unfolding pairs_list after follows chamber_pairs list_to listed_to small_for at_least list_by rows row pair_for ring_pair_by unblocked all_b same_spot blocks points_of tab spot_of num
counted_late_wrong = (refl, refl)

-- The chambers of both contractors. "of the list of these terms (t, contractor, profile)": the first chamber is contractor 0's, the second 1's. [MP1]
abbrev of_both : ℕ → List ℕ → List Pair
of_both c o = list_to last_largest full o pumps chambers

pub of_both_wrong : (of_both 0 (0 ∷ 1 ∷ []) ≡ to 5 1 16 ∷ to 5 2 36 ∷ to 6 2 37 ∷ []) × (list_to last_largest (of_contractor 0 full) (0 ∷ 1 ∷ []) pumps chambers ≡ to 5 1 16 ∷ to 5 2 36 ∷ [])
unfolding list_to listed_to small_for at_least list_by rows row pair_for ring_pair_by unblocked all_b same_spot blocks
of_both_wrong = (refl, refl)

-- A self join has each pair both ways, and each record with itself. "`own_pairs` likewise for a self join", "lower id first". [MP9]
abbrev both_ways : List Point → List Pair
both_ways S = list_to last_largest full [] S S

pub pairs_both_ways_wrong : (both_ways pumps ≡ to 1 1 0 ∷ to 1 2 100 ∷ to 2 1 100 ∷ to 2 2 0 ∷ []) × (list_to last_largest alone [] pumps pumps ≡ to 1 2 100 ∷ [])
unfolding list_to listed_to small_for at_least list_by rows row pair_for ring_pair_by unblocked all_b same_spot blocks
pairs_both_ways_wrong = (refl, refl)

-- ---- what is stored and said

-- More follow where the slots are full. "whether more follow": three slots hold the last three pairs. [MP6]
abbrev full_slots : ℕ → List Pair → Bool
full_slots len l = eqb (length (take len l)) len

pub more_where_full_wrong : (full_slots 3 (to 5 1 16 ∷ to 5 2 36 ∷ to 6 2 37 ∷ []) ≡ true) × ((many_given 3 (to 5 1 16 ∷ to 5 2 36 ∷ to 6 2 37 ∷ [])).more ≡ false)
unfolding many_given is_none
more_where_full_wrong = (refl, refl)

-- Where the slots are full and a pair is left, no more is said to follow. "whether more follow": one slot holds the first of three. [MP6, MP7]
abbrev no_more : ℕ → List Pair → Bool
no_more len l = not (leb len (length l)) && not (is_none (drop len l))

pub full_no_more_wrong : (no_more 1 (to 5 1 16 ∷ to 5 2 36 ∷ to 6 2 37 ∷ []) ≡ false) × ((many_given 1 (to 5 1 16 ∷ to 5 2 36 ∷ to 6 2 37 ∷ [])).more ≡ true)
unfolding many_given is_none
full_no_more_wrong = (refl, refl)

-- With no slots nothing is said to follow. "with no slots: 0, and whether any follow". [MP6]
abbrev some_stored : ℕ → List Pair → Bool
some_stored len l = not (is_none (take len l)) && not (is_none (drop len l))

pub no_slots_wrong : (some_stored 0 (to 5 1 16 ∷ []) ≡ false) × ((many_given 0 (to 5 1 16 ∷ [])).more ≡ true) × ((many_given 0 []).more ≡ false)
unfolding many_given is_none
no_slots_wrong = (refl, refl, refl)

-- The rest of the slots is cleared, as the unused pairs of a page are. "the rest of the slots untouched". [MP5]
abbrev rest_cleared : List Pair → List Pair → List Pair
rest_cleared slots l = take (length slots) l ++ replicate (length slots - length (take (length slots) l)) none

pub rest_cleared_wrong : (rest_cleared (to 9 9 9 ∷ to 8 8 8 ∷ []) (to 5 1 16 ∷ []) ≡ to 5 1 16 ∷ none ∷ []) × (stored (to 9 9 9 ∷ to 8 8 8 ∷ []) (to 5 1 16 ∷ []) ≡ to 5 1 16 ∷ to 8 8 8 ∷ [])
unfolding stored
rest_cleared_wrong = (refl, refl)

-- ---- numbers of refusal

-- The greatest size is refused. "8*10^18 means all". [MP3, MP14]
abbrev bound_below : ℕ → ℕ
bound_below big = given (not (ltb big last_largest)) 40

pub bound_below_wrong : (bound_below last_largest ≡ 40) × (largest_no last_largest ≡ 0)
unfolding largest_no given
bound_below_wrong = (refl, refl)

-- 24 before 40. "a number of our own for `largest` [..], 24": of a larger size and no words it is 40. [MP12, MP13]
abbrev bits_first : List ℤ → ℕ → ℕ → ℕ
bits_first P big len = first (bits_no (need P) len ∷ largest_no big ∷ [])

pub bits_before_largest_wrong :
    (bits_first pump_sheet 8000000000000000001 0 ≡ 24) × (pairs_no pump_sheet chamber_sheet [] (wanted start 8000000000000000001 0) 0 ≡ 40) × (own_pairs_no pump_sheet start 8000000000000000001 false 0 ≡ 40) × (own_count_no pump_sheet 8000000000000000001 false 0 ≡ 40)
unfolding pairs_no own_pairs_no own_count_no largest_no grid_no contractor_no owners_no key_no threshold_no bits_no words_for open_no body_no trailer_no first given counts_ok within edition_word layout_ok root_word points_ok point_ok fields_ok rises_ok id_word coord_word before order_ok place_ok is_below rank_of order_of nodes_ok table_ok node_ok node_rule run_ok end_ok is_last same_level due_of due_next tight_ok tight_side best better min_z max_z coord_of side_of level_of first_of count_of eq_z num all_b limits_of form1
bits_before_largest_wrong = (refl, refl, refl, refl)

-- ---- how many

abbrev which : Which
which = record { largest = last_largest; threshold = 0; contractor = 2; grid = false }

-- Their number is refused by 9 for a key, as the pairs are. "its numbers those of `pairs` without 9": there is no key in what is asked. [MP13]
abbrev keyed : List ℤ → List ℤ → Key → Which → ℕ → ℕ
keyed P Q k a len = pairs_no P Q [] (record { key = k; largest = a.largest; threshold = a.threshold; contractor = a.contractor; grid = a.grid }) len

pub count_keyed_wrong : (keyed pump_sheet chamber_sheet (key 2000000001 0) which 1 ≡ 9) × (count_no pump_sheet chamber_sheet [] which 1 ≡ 0)
unfolding pairs_no count_no largest_no grid_no contractor_no owners_no key_no threshold_no bits_no words_for open_no body_no trailer_no first given counts_ok within edition_word layout_ok root_word points_ok point_ok fields_ok rises_ok id_word coord_word before order_ok place_ok is_below rank_of order_of nodes_ok table_ok node_ok node_rule run_ok end_ok is_last same_level due_of due_next tight_ok tight_side best better min_z max_z coord_of side_of level_of first_of count_of eq_z num all_b limits_of form1
count_keyed_wrong = (refl, refl)

-- The chambers are counted, not their pairs. "the number of pairs of such a list". [MP8]
abbrev chambers_of : List Pair → List ℕ
chambers_of [] = []
chambers_of (v ∷ l) = cond (is_none (chamber_pairs v.q l)) (v.q ∷ chambers_of l) (chambers_of l)

pub chambers_counted_wrong : (length (chambers_of (sized last_largest 0)) ≡ 2) × ((count_given last_largest full [] pump_sheet chamber_sheet).count ≡ 3)
unfolding count_given chamber_pairs is_none list_to listed_to small_for at_least list_by rows row pair_for ring_pair_by unblocked all_b same_spot blocks points_of tab spot_of num
chambers_counted_wrong = (refl, refl)

-- The number of a self join is that of two sheets that are one. "of a self join": each pair once. [MP9]
pub count_both_ways_wrong : ((count_given last_largest full [] pump_sheet pump_sheet).count ≡ 4) × ((count_given last_largest alone [] pump_sheet pump_sheet).count ≡ 1)
unfolding count_given list_to listed_to small_for at_least list_by rows row pair_for ring_pair_by unblocked all_b same_spot blocks points_of tab spot_of num
count_both_ways_wrong = (refl, refl)
