-- What `pack` answers, and what it leaves in the words that the caller lends. p are the point words, o is the order list, ed the edition, out the lent words.
use Rattle.std.specs.Prelude.{Bool, cond, not, ◌&&◌, ◌||◌, List, [], ◌∷◌, ℕ, ◌*◌, eqb, leb, ℤ, pos, length}
use Rattle.plane.specs.Point.{Point}
use Rattle.words.specs.Range.{edition_ok}
use Rattle.words.specs.All.{tab}
use Rattle.words.specs.First.{given, first, answer}
use Rattle.sheet.specs.declared.Limits.{Limits}
use Rattle.sheet.specs.Limits.{limits_of}
use Rattle.sheet.specs.Points.{points_ok}
use Rattle.sheet.specs.Places.{point_of}
use Rattle.pack.specs.Order.{order_list_ok}
use Rattle.pack.specs.Packed.{sheet_size, packed}

-- 18: "point words not 3n, or order list not n long" [N15]
unfoldable pub shape_ok : ℕ → List ℤ → List ℤ → Bool
shape_ok n p o = eqb (length p) (3 * n) && eqb (length o) n

-- 2: "for a form other than 1 or 2, in pack after 18" [Y4]
unfoldable pub form_ok : ℕ → Bool
form_ok form = eqb form 1 || eqb form 2

-- 3: "n, m or edition out of range"; m is not handed in [N16]
unfoldable pub range_ok : Limits → ℕ → ℕ → Bool
range_ok lim n ed = leb n lim.points && edition_ok ed

-- 3, 5, 6, 17 under the limits of a form, for lent words of length `size`
unfoldable pub within_no : Limits → ℕ → List ℤ → List ℤ → ℕ → ℕ → ℕ
within_no lim n p o ed size =
    first
    (given (not (range_ok lim n ed)) 3
    ∷ given (not (points_ok lim p n)) 5
    ∷ given (not (order_list_ok o n)) 6
    ∷ given (not (eqb size (sheet_size n))) 17
    ∷ [])

-- "Pack checks 18, 3, 5, 6, 17", with 2 after 18: the number of the first that applies, or 0 [S22, N14, N15, N16, N17, Y4]
unfoldable pub pack_no : ℕ → ℕ → List ℤ → List ℤ → ℕ → ℕ → ℕ
pack_no form n p o ed size =
    first (given (not (shape_ok n p o)) 18 ∷ given (not (form_ok form)) 2 ∷ within_no (limits_of (pos form)) n p o ed size ∷ [])

-- the lent words after the call: the packed sheet of this form, or as they stood where it is refused [S22, N3, Y4, V4]
unfoldable pub pack_out : ℕ → ℕ → List ℤ → List ℤ → ℕ → List ℤ → List ℤ
pack_out form n p o ed out = answer (pack_no form n p o ed (length out)) (packed form p o n ed) (λ k. out)

-- How many words a caller lends for the sheet of n points, "exactly span+6 words"; 0 where no form has so many points: no sheet is so short. [S29]
unfoldable pub length_for : ℕ → ℕ
length_for n = cond (leb n 60000) (sheet_size n) 0

-- the points that n times three point words give, by position
unfoldable pub points_in : ℕ → List ℤ → List Point
points_in n p = tab n (point_of p)
