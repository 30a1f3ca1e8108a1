-- Wrong readings of the street grid.
use mathlib.Core.Path.{◌≡◌, refl}
use mathlib.Core.Bool.{Bool, true, false, cond, not, ◌&&◌}
use mathlib.Core.List.{List, [], ◌∷◌}
use Prim.Native.Nat.{ℕ, ◌+◌, ◌*◌}
use lib.Dec.{eqb, leb, ltb}
use lib.IntN.{ℤ, pos, neg_ℤ, nat_abs, ◌+ℤ◌, ◌-ℤ◌, ◌*ℤ◌}
use lib.Signed.{shr_z}
use Rattle.words.specs.Word.{num, eq_z}
use Rattle.words.specs.All.{all_b, first_b, tab}
use Rattle.words.specs.Range.{id_ok}
use Rattle.words.specs.First.{given, first}
use Rattle.plane.specs.declared.Spot.{Spot}
use Rattle.plane.specs.declared.Boxed.{Boxed}
use Rattle.plane.specs.Rule.{spot, same_spot, in_box, blocks, drops, drops_box}
use Rattle.plane.specs.Point.{Point}
use Rattle.plane.specs.Profile.{circle, grid, streets, across, centre, away, blocks_by, far_by, inside_by, corners_in, side_in, size_ok}
use Rattle.sheet.specs.Layout.{second, points}
use Rattle.sheet.specs.Order.{order_of}
use Rattle.sheet.specs.Nodes.{level_of, first_of, count_of}
use Rattle.sheet.specs.Boxes.{side_of}
use Rattle.sheet.specs.Places.{spot_of, box_of, points_of}
use Rattle.bits.specs.Set.{digit, at as bit_at, kept, with, none, some}
use Rattle.list.specs.declared.Source.{Source}
use Rattle.list.specs.declared.Key.{Key}
use Rattle.list.specs.Pairs.{start, follows}
use Rattle.list.specs.Pages.{same_kind, same_profile, source_no}
use Rattle.list.specs.Rows.{row, rows, at_least, list_by}
use Rattle.list.specs.RingList.{unblocked, ring_pair_by, ring_list_by}
use Rattle.list.specs.Terms.{with_by, alone_by, pair_for, listed_for, list_for}
use Rattle.walk.specs.Walk.{in_turn, walk, walk_all}
use Rattle.walk.specs.FilterWalk.{dropped, shut, consider, filter_place, filter_take, filter_visit, filter_kept, filter_keeps, keeps_by, keeps_opened}
use Rattle.walk.specs.SelfWalk.{pass_take, pass_kept, pass_keeps, pass_keeps_by, pass_opened}
use Rattle.walk.specs.RingWalk.{meet, ring_take, enter, ring_visit, ring_on, ring_walk}
use Rattle.join.specs.Walks.{Walks}
use Rattle.join.specs.Work.{first_from, ring_steps, steps, spent_on, page_opened}
use Rattle.join.specs.Sheets.{self_walks}
use Rattle.ring.specs.Numbers.{grid_no}
use Rattle.ring.specs.Page.{key_no, asked_no}
use Rattle.book.specs.Rules.{pair_ok}
use Rattle.refuted.proofs.Cases.{to, key, words, pump_sheet, wide_pumps, chamber_sheet}
use Rattle.refuted.proofs.Cases as cases

abbrev at : ℕ → ℕ → Spot
at x y = spot (pos x) (pos y)

abbrev box : ℕ → ℕ → ℕ → ℕ → Boxed
box a b c d = record { xmin = pos a; ymin = pos b; xmax = pos c; ymax = pos d }

-- ---- what blocks

-- A place on the border does not block. "is at most the sum of the absolute differences of a and b": (2,2) is as far as the ends. [A1]
abbrev open_border : Spot → Spot → Spot → Bool
open_border a b z = ltb (centre streets a b z) (across streets a b) && not (same_spot z a) && not (same_spot z b)

pub open_border_wrong : (open_border (at 0 0) (at 4 0) (at 2 2) ≡ false) × (grid.blocks (at 0 0) (at 4 0) (at 2 2) ≡ true)
unfolding blocks_by same_spot
open_border_wrong = (refl, refl)

-- An end's place blocks. "A record at an end's place doesn't block." [A2]
abbrev end_place : Spot → Spot → Spot → Bool
end_place a b z = leb (centre streets a b z) (across streets a b)

pub end_place_wrong : (end_place (at 0 0) (at 4 0) (at 4 0) ≡ true) × (grid.blocks (at 0 0) (at 4 0) (at 4 0) ≡ false)
unfolding blocks_by same_spot
end_place_wrong = (refl, refl)

-- The middle in whole numbers. "the absolute differences of 2x and a+b": of (0,0), (3,0) the place (2,1) is 3 away, and 4 from twice (1,0). [A1]
abbrev halved : ℤ → ℤ → ℤ
halved a b = pos 2 *ℤ shr_z (a +ℤ b) 2

abbrev halved_middle : Spot → Spot → Spot → Bool
halved_middle a b z =
    leb (nat_abs (pos 2 *ℤ z.x -ℤ halved a.x b.x) + nat_abs (pos 2 *ℤ z.y -ℤ halved a.y b.y)) (across streets a b) && not (same_spot z a) && not (same_spot z b)

pub halved_middle_wrong : (halved_middle (at 0 0) (at 3 0) (at 2 1) ≡ false) × (grid.blocks (at 0 0) (at 3 0) (at 2 1) ≡ true)
unfolding blocks_by same_spot
halved_middle_wrong = (refl, refl)

-- The circle's rule. Of (0,0), (20,0) the place (17,7) is in the circle, and 28 from the middle along the streets, against 20. [A1]
pub circle_for_streets_wrong : (circle.blocks (at 0 0) (at 20 0) (at 17 7) ≡ true) × (grid.blocks (at 0 0) (at 20 0) (at 17 7) ≡ false)
unfolding blocks blocks_by same_spot
circle_for_streets_wrong = (refl, refl)

-- The squared sum against the squared diameter: the rule compares sums, and squares nothing. (4,1) is 6 from the middle of (0,0), (4,4), which are 8 apart. [A1]
abbrev squared_sum : Spot → Spot → Spot → Bool
squared_sum a b z = leb (centre streets a b z * centre streets a b z) (circle.size a b) && not (same_spot z a) && not (same_spot z b)

pub squared_sum_wrong : (squared_sum (at 0 0) (at 4 4) (at 4 1) ≡ false) × (grid.blocks (at 0 0) (at 4 4) (at 4 1) ≡ true)
unfolding blocks_by same_spot
squared_sum_wrong = (refl, refl)

-- ---- boxes

-- Rule (1) at the border: a box as far from a+b as a from b is skipped, and with it (2,2), which blocks. [A3]
abbrev far_at_border : Spot → Spot → Boxed → Bool
far_at_border a b o = leb (across streets a b) (away streets a b o)

pub far_at_border_wrong :
    (far_at_border (at 0 0) (at 4 0) (box 2 2 5 5) ≡ true) × (grid.far (at 0 0) (at 4 0) (box 2 2 5 5) ≡ false) × (grid.blocks (at 0 0) (at 4 0) (at 2 2) ≡ true)
unfolding far_by blocks_by same_spot
far_at_border_wrong = (refl, refl, refl)

-- Rule (2) by a side that touches. "strictly inside for sides": the left side of the box of an end alone is that end, which doesn't block. [A4]
abbrev touching_streets : Spot → Spot → Boxed → Bool
touching_streets a b o =
    leb (centre streets a b (spot o.xmin o.ymin)) (across streets a b) && leb (centre streets a b (spot o.xmin o.ymax)) (across streets a b)

pub touching_streets_wrong :
    (touching_streets (at 0 0) (at 4 0) (box 4 0 4 0) ≡ true) × (side_in grid (at 0 0) (at 4 0) (box 4 0 4 0) ≡ 4) × (grid.blocks (at 0 0) (at 4 0) (at 4 0) ≡ false)
unfolding side_in inside_by blocks_by same_spot
touching_streets_wrong = (refl, refl, refl)

-- Right is named before bottom, as of the circle: "the first that qualifies of left, bottom, right, top". [A5]
abbrev streets_right_first : Spot → Spot → Boxed → ℕ
streets_right_first a b o = cond (corners_in grid a b o 0) 0 (cond (corners_in grid a b o 2) 2 (cond (corners_in grid a b o 1) 1 (cond (corners_in grid a b o 3) 3 4)))

pub streets_right_first_wrong : (streets_right_first (at 0 0) (at 8 0) (box 2 1 5 2) ≡ 2) × (side_in grid (at 0 0) (at 8 0) (box 2 1 5 2) ≡ 1)
unfolding side_in inside_by
streets_right_first_wrong = (refl, refl)

-- ---- what is kept, and counted

-- two pump houses, (17,7) and (20,0), and the one chamber at (0,0)
abbrev houses : List ℤ
houses = words (1 ∷ 17 ∷ 7 ∷ 2 ∷ 20 ∷ 0 ∷ 0 ∷ 1 ∷ 0 ∷ 1 ∷ 0 ∷ 0 ∷ 2 ∷ 17 ∷ 0 ∷ 20 ∷ 7 ∷ 17 ∷ 7 ∷ 2 ∷ 1 ∷ 7 ∷ 1 ∷ [])

abbrev house_points : List Point
house_points = cases.at 1 17 7 ∷ cases.at 2 20 0 ∷ []

abbrev chamber_point : List Point
chamber_point = cases.at 5 0 0 ∷ []

-- The half-plane filter. "The half-plane filter doesn't [carry over], so all of P is kept": it skips (20,0), which is a pair of the street grid. [A6]
pub filtered_streets_wrong :
    (filter_keeps 1 houses (at 0 0) 1 ≡ false) × (keeps_by grid 1 houses (at 0 0) 1 ≡ true) × (ring_pair_by grid house_points chamber_point 0 1 ≡ true)
unfolding keeps_by filter_kept filter_visit filter_take filter_place consider dropped shut some walk_all walk in_turn none kept with bit_at digit level_of first_of count_of box_of side_of spot_of order_of num drops drops_box blocks same_spot in_box ring_pair_by unblocked all_b blocks_by
filtered_streets_wrong = (refl, refl, refl)

-- Its nodes are counted. "no filter nodes are counted". [A7]
pub counted_filter_wrong : ((filter_kept 1 houses (at 0 0)).opened ≡ 1) × (keeps_opened grid 1 houses (at 0 0) ≡ 0)
unfolding keeps_opened filter_kept filter_visit filter_take filter_place consider dropped shut some walk_all walk in_turn none kept with bit_at digit level_of first_of count_of box_of side_of spot_of order_of num drops drops_box blocks same_spot in_box
counted_filter_wrong = (refl, refl)

-- ---- the same of a self join

-- three records, (0,0), (17,7) and (20,0), in one leaf
abbrev own_sheet : List ℤ
own_sheet = words (1 ∷ 0 ∷ 0 ∷ 2 ∷ 17 ∷ 7 ∷ 3 ∷ 20 ∷ 0 ∷ 0 ∷ 1 ∷ 2 ∷ 0 ∷ 1 ∷ 2 ∷ 0 ∷ 0 ∷ 3 ∷ 0 ∷ 0 ∷ 20 ∷ 7 ∷ 22 ∷ 7 ∷ 3 ∷ 1 ∷ 7 ∷ 1 ∷ [])

-- A self join of the street grid is filtered: for (0,0) the filter skips (20,0), which is its partner along the streets. [A6]
pub own_filtered_streets_wrong :
    (pass_keeps 1 own_sheet 0 2 ≡ false) × ((self_walks true 1 own_sheet).kept 0 2 ≡ true) × ((self_walks true 1 own_sheet).clear 0 2 ≡ true)
unfolding pass_keeps_by pass_kept pass_take filter_visit filter_take filter_place consider dropped shut some walk_all walk in_turn none kept with bit_at digit level_of first_of count_of box_of side_of spot_of order_of num drops drops_box blocks same_spot in_box ring_walk ring_on ring_visit ring_take meet enter far_by inside_by side_in blocks_by points_of tab
own_filtered_streets_wrong = (refl, refl, refl)

-- All of the sheet is kept, q too. "all of its sheet but q". [A6]
abbrev keeps_itself : List ℤ → ℕ → ℕ → Bool
keeps_itself w j i = ltb i (points w)

pub keeps_itself_wrong : (keeps_itself own_sheet 1 1 ≡ true) × (pass_keeps_by grid 1 own_sheet 1 1 ≡ false)
unfolding pass_keeps_by num
keeps_itself_wrong = (refl, refl)

-- The filter's nodes are counted, one for each record: "no filter nodes are counted". The page of all pairs has three ring walks of one node each. [A7]
abbrev own_counted : List ℤ → Walks
own_counted S =
    record {
      kept = (self_walks true 1 S).kept;
      kept_opened = λ j. (pass_kept 1 S j).opened;
      clear = (self_walks true 1 S).clear;
      clear_opened = (self_walks true 1 S).clear_opened;
      qid = (self_walks true 1 S).qid;
      pair = (self_walks true 1 S).pair;
    }

pub own_counted_filter_wrong : (page_opened (own_counted own_sheet) start 16 3 3 ≡ 6) × (page_opened (self_walks true 1 own_sheet) start 16 3 3 ≡ 3)
unfolding pass_keeps_by pass_opened pass_kept pass_take page_opened steps ring_steps spent_on first_from first_b follows points_of tab filter_visit filter_take filter_place consider dropped shut some none kept with bit_at digit drops drops_box in_box ring_walk ring_on ring_visit ring_take meet enter walk_all walk in_turn level_of first_of count_of box_of side_of spot_of order_of num blocks same_spot far_by inside_by side_in blocks_by
own_counted_filter_wrong = (refl, refl)

-- A book of the street grid is of the circle's list. "Demand 3 holds for either": each for its own list. [A10]
pub circle_list_wrong :
    (list_for (with_by false 0) [] house_points chamber_point ≡ to 5 1 338 ∷ []) × (list_for (with_by true 0) [] house_points chamber_point ≡ to 5 1 576 ∷ to 5 2 400 ∷ [])
unfolding list_for listed_for pair_for at_least list_by rows row ring_pair_by unblocked all_b same_spot blocks blocks_by
circle_list_wrong = (refl, refl)

-- ---- the size

-- The sum itself, or the squared diameter. "the size is the squared sum of absolute differences". [A9]
pub sum_size_wrong : (across streets (at 0 0) (at 3 4) ≡ 7) × (circle.size (at 0 0) (at 3 4) ≡ 25) × (grid.size (at 0 0) (at 3 4) ≡ 49)
sum_size_wrong = (refl, refl, refl)

-- The circle's limit. "For this profile the size limit is 16,000,000,000,000." [A12]
pub circle_limit_wrong : (pair_ok false (to 5 2 16000000000001) ≡ true) × (pair_ok true (to 5 2 16000000000001) ≡ false)
unfolding pair_ok id_ok size_ok
circle_limit_wrong = (refl, refl)

-- The limit of form 1's circles. "16,000,000,000,000": from corner to corner of a form 1 sheet the streets are 4,000,000 long. [A12]
abbrev corner_to_corner : ℕ
corner_to_corner = grid.size (spot (neg_ℤ (pos 1000000)) (neg_ℤ (pos 1000000))) (at 1000000 1000000)

pub form_limit_wrong : (leb corner_to_corner 8000000000000 ≡ false) × (pair_ok true (to 5 2 corner_to_corner) ≡ true)
unfolding pair_ok id_ok size_ok
form_limit_wrong = (refl, refl)

-- The street grid's limit for every page. "8,000,000,000,000,000,000 for every page" stays of the circle's. [A12]
pub street_limit_wrong : (pair_ok true (to 5 2 8000000000000000000) ≡ false) × (pair_ok false (to 5 2 8000000000000000000) ≡ true)
unfolding pair_ok id_ok size_ok
street_limit_wrong = (refl, refl)

-- ---- the numbers

-- 29 after 9. "29 a form 2 sheet, after 26 and before 9". [A13]
abbrev form_after_key : List ℤ → List ℤ → Key → ℕ
form_after_key P Q k = first (key_no k ∷ grid_no true P Q ∷ [])

pub form_after_key_wrong :
    (form_after_key wide_pumps chamber_sheet (key 2000000001 0) ≡ 9) × (asked_no wide_pumps chamber_sheet true (key 2000000001 0) 1 0 ≡ 29)
unfolding asked_no key_no grid_no eq_z first given
form_after_key_wrong = (refl, refl)

-- 29 for P alone. "form 1 sheets only": Q's is looked at too. [A13]
abbrev pumps_form : List ℤ → ℕ
pumps_form P = given (second P) 29

pub pumps_form_wrong : (pumps_form pump_sheet ≡ 0) × (grid_no true pump_sheet wide_pumps ≡ 29)
unfolding grid_no eq_z given
pumps_form_wrong = (refl, refl)

-- 29 for the circle too. "For this profile [..] form 1 sheets only." [A13]
pub form_for_all_wrong : (pumps_form wide_pumps ≡ 29) × (grid_no false wide_pumps chamber_sheet ≡ 0)
unfolding grid_no eq_z given
form_for_all_wrong = (refl, refl)

-- what list a page or a book is of, by its profile: of two sheets, or of one
abbrev of : Bool → ℕ → Source
of g e = record { p_edition = e; q_edition = 9; terms = with_by g 0 }

abbrev own : Bool → Source
own g = record { p_edition = 7; q_edition = 9; terms = alone_by g }

abbrev kind_and_editions : Source → Source → List ℕ
kind_and_editions a b =
    given (not (same_kind a b)) 22 ∷ given (not (eqb a.p_edition b.p_edition && eqb a.q_edition b.q_edition)) 13 ∷ []

-- A page of either profile. "30 page of the other profile". [A8]
pub other_profile_wrong : (first (kind_and_editions (of true 7) (of false 7)) ≡ 0) × (source_no (of true 7) (of false 7) ≡ 30)
unfolding source_no first given
other_profile_wrong = (refl, refl)

-- 30 after 13, or before 22. "30 page of the other profile, after 28", which is "after 22". [A14]
pub profile_late_wrong : (first (kind_and_editions (of true 7) (of false 8)) ≡ 13) × (source_no (of true 7) (of false 8) ≡ 30)
unfolding source_no first given
profile_late_wrong = (refl, refl)

abbrev profile_first : Source → Source → ℕ
profile_first a b = first (given (not (same_profile a b)) 30 ∷ kind_and_editions a b)

-- [A14]
pub profile_first_wrong : (profile_first (of true 7) (own false) ≡ 30) × (source_no (of true 7) (own false) ≡ 22)
unfolding source_no first given
profile_first_wrong = (refl, refl)

-- ---- request 6

-- Two sheets that both hold assets always give a visit. So it is of the circle; along the streets each of (4,4) and (5,3) blocks the other's pair with (0,0). [A15]
abbrev barren : List Point
barren = cases.at 1 4 4 ∷ cases.at 2 5 3 ∷ []

pub always_visit_wrong : (ring_list_by grid barren chamber_point ≡ []) × (ring_list_by circle barren chamber_point ≡ to 5 1 32 ∷ [])
unfolding ring_list_by list_by rows row ring_pair_by unblocked all_b same_spot blocks blocks_by
always_visit_wrong = (refl, refl)
