-- Whether a chamber has at least t partners. "For one q id and a t, give the smaller of t and the number of its pairs in the list, and a yes exactly when that is t."
use Rattle.std.specs.Prelude.{false, not, ◌&&◌, List, [], ◌∷◌, ℕ, eqb, leb, ltb, ℤ, length}
use Rattle.words.specs.First.{given, first, answer}
use Rattle.plane.specs.Point.{Point}
use Rattle.sheet.specs.Places.{points_of}
use Rattle.sheet.specs.Open.{sheet_no}
use Rattle.list.specs.Pairs.{chamber_pairs}
use Rattle.list.specs.Pages.{last_threshold}
use Rattle.list.specs.RingList.{ring_list}
use Rattle.sheet.specs.Find.{position_of}
use Rattle.join.specs.Threshold.{smaller}
use Rattle.ring.specs.Lent.{need, bits_no, wiped_by}
use Rattle.ring.specs.declared.Partnered.{Partnered}

-- 20: "unknown q id" [T8, G9, G10]
unfoldable pub id_no : List Point → ℕ → ℕ
id_no Q id = given (not (ltb (position_of Q id) (length Q))) 20

-- 21: "t outside 0 to 1,000, or 0 in the single question" [T9, Y13]
unfoldable pub least_no : ℕ → ℕ
least_no t = given (not (leb 1 t && leb t last_threshold)) 21

-- the sheets' numbers, then 20, then 21, then 24 [T8]
unfoldable pub partners_no : List ℤ → List ℤ → ℕ → ℕ → ℕ → ℕ
partners_no P Q id t len = first (sheet_no P ∷ sheet_no Q ∷ id_no (points_of Q) id ∷ least_no t ∷ bits_no (need P) len ∷ [])

-- the smaller of t and the number of the chamber's pairs in the list, and whether that is t [T1]
unfoldable pub partners_count : List ℤ → List ℤ → ℕ → ℕ → ℕ
partners_count P Q id t = smaller t (length (chamber_pairs id (ring_list (points_of P) (points_of Q))))

-- [T2]
unfoldable pub partners_given : List ℤ → List ℤ → ℕ → ℕ → Partnered
partners_given P Q id t = record { number = 0; count = partners_count P Q id t; enough = eqb (partners_count P Q id t) t }

-- refused, the number and zeros
unfoldable pub partners_refused : ℕ → Partnered
partners_refused k = record { number = k; count = 0; enough = false }

-- the answer by its number: 0 is the count, any other is the refusal of that number
unfoldable pub partners_answer : List ℤ → List ℤ → ℕ → ℕ → ℕ → Partnered
partners_answer P Q id t len = answer (partners_no P Q id t len) (partners_given P Q id t) partners_refused

-- the lent words after it [Y10]
unfoldable pub partners_bits : List ℤ → List ℤ → ℕ → ℕ → List ℕ → List ℕ
partners_bits P Q id t ws = wiped_by (partners_no P Q id t (length ws)) (need P) ws
