-- The text of the listing, byte by byte (ASCII).
use Rattle.std.specs.Prelude.{◌≡◌, cond, List, [], ◌∷◌, ◌++◌, ℕ, zero, suc, ◌+◌, ◌/◌, ◌%◌, ltb, ℤ, pos, negsuc, length, take}

-- the decimal digits of n, of which k places are enough
abbrev pub decimal_in : ℕ → ℕ → List ℕ
decimal_in zero n = []
decimal_in (suc k) n = cond (ltb n 10) ((48 + n) ∷ []) (decimal_in k (n / 10) ++ ((48 + n % 10) ∷ []))

-- with no zero in front, of a number below 10 ^ 20
unfoldable pub decimal : ℕ → List ℕ
decimal n = decimal_in 20 n

-- a minus, 45, before a number below zero
unfoldable pub signed_text : ℤ → List ℕ
signed_text (pos n) = decimal n
signed_text (negsuc n) = 45 ∷ decimal (suc n)

-- a number and the byte after it: 32 is a space, 10 the end of the line
abbrev pub number : ℕ → ℕ → List ℕ
number n b = decimal n ++ (b ∷ [])

abbrev pub signed : ℤ → ℕ → List ℕ
signed z b = signed_text z ++ (b ∷ [])

-- "prints q id, p id, twice the centre's x, twice its y, squared diameter" [X9]
unfoldable pub line_text : ℕ → ℕ → ℤ → ℤ → ℕ → List ℕ
line_text q p x y d = number q 32 ++ (number p 32 ++ (signed x 32 ++ (signed y 32 ++ number d 10)))

-- "last `end` and the number of pairs" [X9]
unfoldable pub end_text : ℕ → List ℕ
end_text n = (101 ∷ 110 ∷ 100 ∷ 32 ∷ []) ++ number n 10

-- "refused "
abbrev pub refused : List ℕ
refused = 114 ∷ 101 ∷ 102 ∷ 117 ∷ 115 ∷ 101 ∷ 100 ∷ 32 ∷ []

-- "It prints `refused q N` or `refused p N` alone": `set` is the byte q, 113, or p, 112
unfoldable pub refused_text : ℕ → ℕ → List ℕ
refused_text set n = refused ++ ((set ∷ 32 ∷ []) ++ number n 10)

-- "or `refused input`"
unfoldable pub input_text : List ℕ
input_text = refused ++ (105 ∷ 110 ∷ 112 ∷ 117 ∷ 116 ∷ 10 ∷ [])

-- the text of a buffer up to place `at` has grown by t, up to place r
pub record Grown (before : List ℕ) (at : ℕ) (after : List ℕ) (r : ℕ) (t : List ℕ) : Type 0 where
  pub place : r ≡ at + length t
  pub text : take r after ≡ take at before ++ t
