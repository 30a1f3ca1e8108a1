-- The position of an id, which the walks and the point reader are asked for. Of either sheet: the number for an id that none of its records has is the
-- single question's, 20.
use Rattle.std.specs.Prelude.{List, [], ◌∷◌, ℕ, ℤ}
use Rattle.words.specs.First.{first, answer}
use Rattle.sheet.specs.Places.{points_of}
use Rattle.sheet.specs.Open.{sheet_no}
use Rattle.sheet.specs.Find.{position_of}
use Rattle.ring.specs.Partners.{id_no}
use Rattle.ring.specs.declared.Placed.{Placed}

-- the sheet's number, then 20 [S30]
unfoldable pub place_no : List ℤ → ℕ → ℕ
place_no w id = first (sheet_no w ∷ id_no (points_of w) id ∷ [])

-- the position of the record with the id
unfoldable pub place_given : List ℤ → ℕ → Placed
place_given w id = record { number = 0; position = position_of (points_of w) id }

-- served, 0 and the position
abbrev pub place_at : ℕ → Placed
place_at i = record { number = 0; position = i }

-- refused, the number and 0
unfoldable pub place_refused : ℕ → Placed
place_refused k = record { number = k; position = 0 }

-- the answer by its number [S30]
unfoldable pub placed : List ℤ → ℕ → Placed
placed w id = answer (place_no w id) (place_given w id) place_refused
