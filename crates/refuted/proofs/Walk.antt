-- Wrong readings of the kept set and of the two walks.
use mathlib.Core.Path.{◌≡◌, refl}
use mathlib.Core.Bool.{true, false, cond}
use mathlib.Core.List.{List, [], ◌∷◌}
use Prim.Native.Nat.{ℕ, ◌+◌, ◌/◌, ◌%◌, ◌^◌}
use lib.Dec.{ltb}
use lib.IntN.{ℤ, pos}
use lib.ListN.{get_or, set}
use Rattle.words.specs.Word.{num}
use Rattle.words.specs.All.{all_b}
use Rattle.plane.specs.declared.Spot.{Spot}
use Rattle.plane.specs.Rule.{spot, same_spot, in_box, blocks, drops, drops_box, far, inside}
use Rattle.plane.specs.Profile.{circle, side_in}
use Rattle.plane.specs.Point.{spot_at}
use Rattle.sheet.specs.Order.{order_of}
use Rattle.sheet.specs.Nodes.{level_of, first_of, count_of}
use Rattle.sheet.specs.Boxes.{side_of}
use Rattle.sheet.specs.Places.{spot_of, box_of}
use Rattle.bits.specs.Set.{digit, at, kept, with, none, words_for, some}
use Rattle.list.specs.RingList.{unblocked, ring_pair_by, ring_pair}
use Rattle.walk.specs.declared.Hit.TheVariants.{Point, Side}
use Rattle.walk.specs.declared.Answer.{Answer}
use Rattle.walk.specs.Walk.{in_turn, walk, walk_all}
use Rattle.walk.specs.FilterWalk.{Kept, so_far, dropped, shut, consider, filter_place, filter_take, filter_visit, filter_kept, filter_keeps}
use Rattle.walk.specs.SelfWalk.{pass_take, pass_kept, pass_keeps}
use Rattle.walk.specs.RingWalk.{clear_at, unless_hit, meet, ring_take, enter, ring_visit, ring_on, ring_walk, pair_walk_by, pair_walk}
use Rattle.refuted.proofs.Cases.{words, pumps, chambers, pump_sheet, chamber_sheet, line}

-- ---- the kept set

-- Position i at bit i mod 32. "position i is bit i mod 64, counted from the lowest, of word i div 64". [W5]
abbrev with32 : List ℕ → ℕ → List ℕ
with32 ws i = set ws (i / 64) (get_or ws (i / 64) 0 + 2 ^ (i % 32))

pub wrong_bit_wrong : (kept (with32 (0 ∷ []) 40) 40 ≡ false) × (kept (with (0 ∷ []) 40) 40 ≡ true)
unfolding kept with at digit
wrong_bit_wrong = (refl, refl)

-- n / 64 words, the rest cut off. "as many 64-bit words as the points need": 65 points need two. [Y7]
abbrev whole_words : ℕ → ℕ
whole_words n = n / 64

pub whole_words_wrong : (whole_words 65 ≡ 1) × (words_for 65 ≡ 2)
unfolding words_for
whole_words_wrong = (refl, refl)

-- ---- the filter walk

-- No box is opened. "For every position, a ring partner of q is kept": chamber 5 and pump house 1 are a pair, and it is not. [W1, W8]
abbrev never_opened : List ℤ → Spot → Kept
never_opened w q = walk_all w 2 1 (λ j go k. k) (filter_take w 2 q) (so_far (none 1) 0)

pub all_skipped_wrong :
    (kept (never_opened pump_sheet (spot_at chambers 0)).bits 0 ≡ false)
    × (filter_keeps 1 pump_sheet (spot_at chambers 0) 0 ≡ true)
    × (ring_pair pumps chambers 0 0 ≡ true)
unfolding filter_kept filter_visit filter_take filter_place consider dropped shut some walk_all walk in_turn none kept with at digit level_of first_of count_of box_of side_of spot_of order_of num drops drops_box blocks same_spot in_box ring_pair_by unblocked all_b
all_skipped_wrong = (refl, refl, refl)

-- The filter of a self join keeps q itself. "The filter passes over q." [J8]
pub q_kept_wrong : (filter_keeps 1 pump_sheet (spot_of pump_sheet 0) 0 ≡ true) × (pass_keeps 1 pump_sheet 0 0 ≡ false)
unfolding pass_kept pass_take filter_kept filter_visit filter_take filter_place consider dropped shut some walk_all walk in_turn none kept with at digit level_of first_of count_of box_of side_of spot_of order_of num drops drops_box blocks same_spot in_box
q_kept_wrong = (refl, refl)

-- ---- the ring walk

-- A node that is opened counts twice. "nodes opened never exceed m in one walk of one sheet": the sheet has one. [W22, V6]
abbrev enter_twice : ℕ → List ℤ → ℕ → Spot → Spot → ℕ → (Answer → Answer) → Answer → Answer
enter_twice set w n a b j go s =
    cond (far a b (box_of w n j)) s
    (cond (ltb (side_in circle a b (box_of w n j)) 4) (record { hit = Side (record { set = set; side = side_in circle a b (box_of w n j); node = j }); opened = s.opened })
    (go (record { hit = s.hit; opened = s.opened + 2 })))

abbrev counted_twice : List ℤ → Spot → Spot → Answer
counted_twice w a b = walk_all w 2 1 (λ j go s. unless_hit (enter_twice 0 w 2 a b j go) s) (ring_take circle 0 w 2 a b) (clear_at 0)

pub counted_twice_wrong :
    ((counted_twice pump_sheet (spot_at chambers 0) (spot_at pumps 0)).opened ≡ 2) × ((ring_walk circle 0 pump_sheet (spot_at chambers 0) (spot_at pumps 0)).opened ≡ 1)
unfolding ring_walk ring_on ring_visit ring_take meet enter walk_all walk in_turn level_of first_of count_of box_of side_of spot_of order_of num blocks same_spot far side_in inside
counted_twice_wrong = (refl, refl)

-- P is walked first. "Q is walked first, then P if Q is clear": the pair of (0, 0) and (10, 0) is blocked by a record of each. [W19]
abbrev pumps_first : List ℤ → List ℤ → ℕ → ℕ → Answer
pumps_first P Q j i = ring_on circle 1 Q (spot_of Q j) (spot_of P i) (ring_walk circle 0 P (spot_of Q j) (spot_of P i))

pub pumps_first_wrong :
    ((pumps_first (line 1 10 2 4 4 10) (line 5 0 6 6 0 6) 0 0).hit ≡ Side (record { set = 0; side = 0; node = 0 }))
    × ((pair_walk (line 1 10 2 4 4 10) (line 5 0 6 6 0 6) 0 0).hit ≡ Side (record { set = 1; side = 2; node = 0 }))
unfolding pair_walk_by ring_walk ring_on ring_visit ring_take meet enter walk_all walk in_turn level_of first_of count_of box_of side_of spot_of order_of num blocks same_spot far side_in inside
pumps_first_wrong = (refl, refl)

-- The count of the last walk alone. "the counts add up". [W20]
abbrev last_count : List ℤ → List ℤ → ℕ → ℕ → ℕ
last_count P Q j i = (ring_walk circle 0 P (spot_of Q j) (spot_of P i)).opened

pub last_count_wrong : (last_count pump_sheet chamber_sheet 0 0 ≡ 1) × ((pair_walk pump_sheet chamber_sheet 0 0).opened ≡ 2)
unfolding pair_walk_by ring_walk ring_on ring_visit ring_take meet enter walk_all walk in_turn level_of first_of count_of box_of side_of spot_of order_of num blocks same_spot far side_in inside
last_count_wrong = (refl, refl)

-- The records of a leaf by position. "depth first in table order": of (2, 0) and (2, 4), both on the circle, that at the first place is met first. [W12, W16]
abbrev upright : List ℤ
upright = words (1 ∷ 2 ∷ 0 ∷ 2 ∷ 2 ∷ 4 ∷ 1 ∷ 0 ∷ 1 ∷ 0 ∷ 0 ∷ 0 ∷ 2 ∷ 2 ∷ 0 ∷ 2 ∷ 4 ∷ 17 ∷ 7 ∷ 2 ∷ 1 ∷ 7 ∷ 1 ∷ [])

abbrev by_position : List ℤ → Spot → Spot → Answer
by_position w a b = walk_all w 2 1 (ring_visit circle 0 w 2 a b) (λ r s. unless_hit (meet circle 0 w a b r) s) (clear_at 0)

pub by_position_wrong :
    ((by_position upright (spot (pos 0) (pos 2)) (spot (pos 4) (pos 2))).hit ≡ Point (record { set = 0; position = 0 }))
    × ((ring_walk circle 0 upright (spot (pos 0) (pos 2)) (spot (pos 4) (pos 2))).hit ≡ Point (record { set = 0; position = 1 }))
unfolding ring_walk ring_on ring_visit ring_take meet enter walk_all walk in_turn level_of first_of count_of box_of side_of spot_of order_of num blocks same_spot far side_in inside
by_position_wrong = (refl, refl)
