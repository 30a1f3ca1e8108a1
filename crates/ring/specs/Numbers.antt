-- The numbers of refusal of the calls on sheets, 0 where a call answers.
use Rattle.std.specs.Prelude.{Bool, not, ◌&&◌, ◌||◌, List, [], ◌∷◌, ℕ, ltb, ℤ}
use Rattle.words.specs.First.{given, first}
use Rattle.sheet.specs.Layout.{second, points}
use Rattle.sheet.specs.Open.{sheet_no}
use Rattle.ring.specs.Lent.{need, bits_no}

-- "checks its sheets first [..]: 1 to 8 for P, then for Q" [N18, Y3]
unfoldable pub sheets_no : List ℤ → List ℤ → ℕ
sheets_no P Q = first (sheet_no P ∷ sheet_no Q ∷ [])

-- 9: "a position not below its sheet's n" [N21]
unfoldable pub position_no : List ℤ → ℕ → ℕ
position_no w i = given (not (ltb i (points w))) 9

-- 29: "a form 2 sheet", either of the two: of the street grid "form 1 sheets only" [A13]
unfoldable pub grid_no : Bool → List ℤ → List ℤ → ℕ
grid_no g P Q = given (g && (second P || second Q)) 29

-- the point reader takes one sheet and a position of it
unfoldable pub point_no : List ℤ → ℕ → ℕ
point_no w i = first (sheet_no w ∷ position_no w i ∷ [])

-- the filter walk for position j of Q over P, for so many lent words [Y15]
unfoldable pub filter_no : List ℤ → List ℤ → ℕ → ℕ → ℕ
filter_no P Q j len = first (sheet_no P ∷ sheet_no Q ∷ position_no Q j ∷ bits_no (need P) len ∷ [])

-- the ring walk for position j of Q and position i of P, of a profile: 29 "before 9" [A13]
unfoldable pub ring_no : List ℤ → List ℤ → ℕ → ℕ → Bool → ℕ
ring_no P Q j i g = first (sheet_no P ∷ sheet_no Q ∷ grid_no g P Q ∷ position_no Q j ∷ position_no P i ∷ [])
