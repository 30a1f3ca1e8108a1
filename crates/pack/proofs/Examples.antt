-- How many nodes the packer makes, the document's own sheet packed from its points, and each number of refusal: by computation.
-- Assumes nothing.
use mathlib.Core.Path.{◌≡◌, refl, sym}
use mathlib.Core.Bool.{true, false}
use mathlib.Core.List.{List, [], ◌∷◌}
use lib.IntN.{ℤ, pos, negsuc}
use lib.ListN.{replicate}
use Rattle.words.specs.Word.{eq_z, within, before, num, is_below, min_z, max_z}
use Rattle.words.specs.All.{all_b, first_b, tab}
use Rattle.words.specs.Range.{id_word, coord_word, edition_ok}
use Rattle.words.specs.First.{given, first}
use Rattle.sheet.specs.Limits.{form1, form2, limits_of}
use Rattle.sheet.specs.Layout.{root_word}
use Rattle.sheet.specs.Points.{fields_ok, rises_ok, point_ok, points_ok}
use Rattle.sheet.specs.Boxes.{better, best}
use Rattle.pack.specs.Tree.{up16, width, ground_level, above, one_left, nodes_from, nodes_for, node_on, node_from, plan_of, plan_count}
use Rattle.pack.specs.Order.{place_in, list_ok, order_list_ok}
use Rattle.pack.specs.Packed.{flat_word, coord_in, box_side, node_word, body_word, trailer_word, pack_word, sheet_size, packed}
use Rattle.pack.specs.Pack.{shape_ok, form_ok, range_ok, within_no, pack_no}
use Rattle.pack.specs.Claims.{Returned}
use Rattle.pack.proofs.PackLaws.{out_packed}
use Rattle.pack.proofs.ReturnTrip.{pack_return_trip}

-- "n = 16 gives 1 node, 17 gives 3, 1,000 gives 68"; and of 60,000, which form 2 allows
nodes_made : (nodes_for 0 ≡ 0) × (nodes_for 16 ≡ 1) × (nodes_for 17 ≡ 3) × (nodes_for 1000 ≡ 68) × (nodes_for 60000 ≡ 4001)
unfolding up16 width ground_level above one_left nodes_from nodes_for
nodes_made = (refl, refl, refl, refl, refl)

-- of 63 leaves the last covers 8 places; the nodes over them are 63 to 66, the last of which covers 15 leaves; node 67 covers these four
thousand : (plan_of 1000 62 ≡ record { level = 0; head = 0; next = 992; top = 1000 })
    × (plan_of 1000 66 ≡ record { level = 1; head = 63; next = 48; top = 63 })
    × (plan_of 1000 67 ≡ record { level = 2; head = 67; next = 63; top = 67 })
    × (plan_count (plan_of 1000 62) ≡ 8) × (plan_count (plan_of 1000 66) ≡ 15) × (plan_count (plan_of 1000 67) ≡ 4)
unfolding up16 width ground_level above one_left nodes_from nodes_for node_on node_from plan_of plan_count
thousand = (refl, refl, refl, refl, refl, refl)

p : List ℤ
p = pos 1 ∷ pos 0 ∷ pos 0 ∷ pos 2 ∷ pos 10 ∷ pos 0 ∷ []

o : List ℤ
o = pos 0 ∷ pos 1 ∷ []

-- "P, edition 7", and the same points in form 2
listed : packed 1 p o 2 7 ≡ pos 1 ∷ pos 0 ∷ pos 0 ∷ pos 2 ∷ pos 10 ∷ pos 0 ∷ pos 0 ∷ pos 1 ∷ pos 0 ∷ pos 1 ∷ pos 0 ∷ pos 0 ∷ pos 2 ∷ pos 0 ∷ pos 0 ∷ pos 10 ∷ pos 0 ∷ pos 17 ∷ pos 7 ∷ pos 2 ∷ pos 1 ∷ pos 7 ∷ pos 1 ∷ []
unfolding p o eq_z num min_z max_z first_b tab root_word better best up16 width ground_level above one_left nodes_from nodes_for node_on node_from plan_of plan_count place_in flat_word coord_in box_side node_word body_word trailer_word pack_word sheet_size packed
listed = refl

listed_second : packed 2 p o 2 7 ≡ pos 1 ∷ pos 0 ∷ pos 0 ∷ pos 2 ∷ pos 10 ∷ pos 0 ∷ pos 0 ∷ pos 1 ∷ pos 0 ∷ pos 1 ∷ pos 0 ∷ pos 0 ∷ pos 2 ∷ pos 0 ∷ pos 0 ∷ pos 10 ∷ pos 0 ∷ pos 17 ∷ pos 7 ∷ pos 2 ∷ pos 1 ∷ pos 7 ∷ pos 2 ∷ []
unfolding p o eq_z num min_z max_z first_b tab root_word better best up16 width ground_level above one_left nodes_from nodes_for node_on node_from plan_of plan_count place_in flat_word coord_in box_side node_word body_word trailer_word pack_word sheet_size packed
listed_second = refl

-- taken; then 18, 2, 3, 5, 6 and 17, each with a fault of the numbers after it where it can have one
numbers : (pack_no 1 2 p o 7 23 ≡ 0)
    × (pack_no 0 6148914691236517206 p o 0 0 ≡ 18)
    × (pack_no 0 2 p o 0 0 ≡ 2)
    × (pack_no 3 2 p o 0 0 ≡ 2)
    × (pack_no 1 2 p o 0 0 ≡ 3)
    × (pack_no 1 2 (pos 1 ∷ pos 0 ∷ pos 0 ∷ pos 1 ∷ pos 10 ∷ pos 0 ∷ []) (pos 0 ∷ pos 0 ∷ []) 7 0 ≡ 5)
    × (pack_no 1 2 p (pos 1 ∷ pos 1 ∷ []) 7 0 ≡ 6)
    × (pack_no 1 2 p (pos 0 ∷ negsuc 0 ∷ []) 7 0 ≡ 6)
    × (pack_no 1 2 p o 7 24 ≡ 17)
unfolding p o eq_z within before num is_below all_b first_b id_word coord_word edition_ok form1 form2 limits_of fields_ok rises_ok point_ok points_ok up16 width ground_level above one_left nodes_from nodes_for place_in list_ok order_list_ok sheet_size shape_ok form_ok range_ok within_no pack_no first given
numbers = (refl, refl, refl, refl, refl, refl, refl, refl, refl)

-- the same numbers under the limits of form 2
second : (pack_no 2 2 p o 7 23 ≡ 0)
    × (pack_no 2 6148914691236517206 p o 0 0 ≡ 18)
    × (pack_no 2 2 p o 0 0 ≡ 3)
    × (pack_no 2 2 (pos 1 ∷ pos 0 ∷ pos 0 ∷ pos 1 ∷ pos 10 ∷ pos 0 ∷ []) (pos 0 ∷ pos 0 ∷ []) 7 0 ≡ 5)
    × (pack_no 2 2 p (pos 1 ∷ pos 1 ∷ []) 7 0 ≡ 6)
    × (pack_no 2 2 p o 7 24 ≡ 17)
unfolding p o eq_z within before num is_below all_b first_b id_word coord_word edition_ok form1 form2 limits_of fields_ok rises_ok point_ok points_ok up16 width ground_level above one_left nodes_from nodes_for place_in list_ok order_list_ok sheet_size shape_ok form_ok range_ok within_no pack_no first given
second = (refl, refl, refl, refl, refl, refl)

-- each form's own limits: 1,000 points and 60,000, and coordinates one past those of form 1 and one past those of form 2
far : ℤ → List ℤ
far x = pos 5 ∷ x ∷ pos 0 ∷ []

limits : (range_ok form1 1000 1 ≡ true) × (range_ok form1 1001 1 ≡ false) × (range_ok form2 60000 1 ≡ true) × (range_ok form2 60001 1 ≡ false)
    × (pack_no 1 1 (far (pos 1000000)) (pos 0 ∷ []) 7 18 ≡ 0)
    × (pack_no 1 1 (far (pos 1000001)) (pos 0 ∷ []) 7 18 ≡ 5)
    × (pack_no 2 1 (far (negsuc 999999999)) (pos 0 ∷ []) 7 18 ≡ 0)
    × (pack_no 2 1 (far (negsuc 1000000000)) (pos 0 ∷ []) 7 18 ≡ 5)
unfolding far eq_z within before num is_below all_b first_b id_word coord_word edition_ok form1 form2 limits_of fields_ok rises_ok point_ok points_ok up16 width ground_level above one_left nodes_from nodes_for place_in list_ok order_list_ok sheet_size shape_ok form_ok range_ok within_no pack_no first given
limits = (refl, refl, refl, refl, refl, refl, refl, refl)

-- the return trip of a sheet that only form 2 allows
returned : Returned 2 1 (far (negsuc 999999999)) 7 (packed 2 (far (negsuc 999999999)) (pos 0 ∷ []) 1 7)
returned = pack_return_trip 2 1 (far (negsuc 999999999)) (pos 0 ∷ []) 7 (replicate 18 (pos 0)) 0 _ (sym limits.6) (out_packed 2 1 (far (negsuc 999999999)) (pos 0 ∷ []) 7 (replicate 18 (pos 0)) limits.6) refl
