-- Nearest first, for a single chamber: the numbers of the calls, their answers, and the lent numbers after them.
-- "Give the pump houses one after another in that order, up to a size of 16. Then use the same walk as a second filter [..]. Waiting boxes and points stand in a lent slice of at
-- least n + m entries, the first n + m zero after an answer, the rest untouched. Refusals: 20, 10 (the filter has no size), then 25 slice shorter than that."
use Rattle.std.specs.Prelude.{List, [], ◌∷◌, ◌++◌, map, ℕ, ◌+◌, ◌-◌, ltb, ℤ, pos, length, take, replicate}
use Rattle.words.specs.First.{given, first, answer}
use Rattle.plane.specs.declared.Spot.{Spot}
use Rattle.plane.specs.Rule.{spot}
use Rattle.plane.specs.Point.{id_at}
use Rattle.sheet.specs.Layout.{points, nodes}
use Rattle.sheet.specs.Places.{spot_of, points_of}
use Rattle.sheet.specs.Open.{sheet_no}
use Rattle.list.specs.Pages.{size_no}
use Rattle.outward.specs.NearWalk.{near_order, near_kept}
use Rattle.outward.specs.Claims.{distance_to}
use Rattle.ring.specs.declared.Filtered.{Filtered}
use Rattle.sheet.specs.Find.{position_of}
use Rattle.ring.specs.Partners.{id_no}
use Rattle.ring.specs.Lent.{need, bits_no, kept_by, wiped_by}
use Rattle.ring.specs.Answers.{filtered_to, unfiltered}
use Rattle.nearest.specs.declared.Near.{Near}
use Rattle.nearest.specs.declared.Found.{Found}
use Rattle.walk.specs.FilterWalk.{Kept}

-- ---- numbers

-- "25 slice shorter than that": fewer numbers are lent than P has points and nodes [G9, G10]
unfoldable pub wait_no : List ℤ → ℕ → ℕ
wait_no P len = given (ltb len (points P + nodes P)) 25

-- the sheets' numbers, P's first, then 20
unfoldable pub chamber_no : List ℤ → List ℤ → ℕ → ℕ
chamber_no P Q id = first (sheet_no P ∷ sheet_no Q ∷ id_no (points_of Q) id ∷ [])

-- then 10 for the size, then 25 [G9, G10]
unfoldable pub nearest_no : List ℤ → List ℤ → ℕ → ℕ → ℕ → ℕ
nearest_no P Q id size len = first (sheet_no P ∷ sheet_no Q ∷ id_no (points_of Q) id ∷ size_no size ∷ wait_no P len ∷ [])

-- "the filter has no size"; "24 bit slice too short, after all others but 16 and 25": for so many lent words and numbers [G9, G10, Y15]
unfoldable pub near_filter_no : List ℤ → List ℤ → ℕ → ℕ → ℕ → ℕ
near_filter_no P Q id bits len = first (sheet_no P ∷ sheet_no Q ∷ id_no (points_of Q) id ∷ bits_no (need P) bits ∷ wait_no P len ∷ [])

-- ---- answers

-- where the chamber with this id stands
unfoldable pub stands_at : List ℤ → ℕ → Spot
stands_at Q id = spot_of Q (position_of (points_of Q) id)

-- what is found of two sheets and the id of a chamber: 0, the points and nodes of P and where the chamber stands; or the number of refusal and zeros
pub record Chamber : Type 0 where
  pub number : ℕ
  pub n : ℕ
  pub m : ℕ
  pub at : Spot

-- found, with these
abbrev pub placed_at : ℕ → ℕ → Spot → Chamber
placed_at n m at = record { number = 0; n = n; m = m; at = at }

-- refused, by this number
unfoldable pub unplaced_at : ℕ → Chamber
unplaced_at k = record { number = k; n = 0; m = 0; at = spot (pos 0) (pos 0) }

-- what is found of two sheets and an id: 0, the points and nodes of P and where the chamber stands; or the number and zeros
unfoldable pub chamber_found : List ℤ → List ℤ → ℕ → Chamber
chamber_found P Q id =
    answer (chamber_no P Q id) (record { number = 0; n = points P; m = nodes P; at = stands_at Q id }) unplaced_at

abbrev pub no_point : Near
no_point = record { id = 0; distance = 0 }

-- the pump house at position i of P: its id and its squared distance to q
unfoldable pub near_at : List ℤ → Spot → ℕ → Near
near_at P q i = record { id = id_at (points_of P) i; distance = distance_to P q i }

-- sixteen of them: those at the positions of a list, and then zeros
unfoldable pub sixteen : (ℕ → Near) → List ℕ → List Near
sixteen f l = map f l ++ replicate (16 - length l) no_point

-- the first `size` pump houses of P for the place q, fewer if P has fewer, and their number [G3]
unfoldable pub nearest_at : List ℤ → Spot → ℕ → Found
nearest_at P q size =
    record { number = 0; count = length (take size (near_order P q)); points = sixteen (near_at P q) (take size (near_order P q)) }

-- refused, the number and zeros [G11]
unfoldable pub nearest_refused : ℕ → Found
nearest_refused k = record { number = k; count = 0; points = replicate 16 no_point }

-- the answer by its number: 0 is the pump houses, any other is the refusal of that number
unfoldable pub nearest_answer : List ℤ → List ℤ → ℕ → ℕ → ℕ → Found
nearest_answer P Q id size len = answer (nearest_no P Q id size len) (nearest_at P (stands_at Q id) size) nearest_refused

-- what the walk for the chamber with this id keeps, on as many words as the points need
abbrev pub near_kept_for : List ℤ → List ℤ → ℕ → Kept
near_kept_for P Q id = near_kept (need P) P (stands_at Q id)

-- the number of bits set and the nodes opened; or the refusal
unfoldable pub near_filtered : List ℤ → List ℤ → ℕ → ℕ → ℕ → Filtered
near_filtered P Q id bits len = answer (near_filter_no P Q id bits len) (filtered_to (near_kept_for P Q id)) unfiltered

-- the lent words after it: "a filter walk leaves its kept set there" [Y9]
unfoldable pub near_filtered_bits : List ℤ → List ℤ → ℕ → ℕ → List ℕ → List ℕ
near_filtered_bits P Q id len ws = kept_by (near_filter_no P Q id (length ws) len) (near_kept_for P Q id).bits ws

-- ---- the lent numbers after a call by its number: "the first n + m zero after an answer, the rest untouched"; a refusal "leaves lent memory [..] as they stood" [G7, G8, G11]
unfoldable pub waited_by : ℕ → List ℤ → List ℕ → List ℕ
waited_by k P ws = wiped_by k (points P + nodes P) ws
