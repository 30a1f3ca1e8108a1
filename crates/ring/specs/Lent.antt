-- The words that a caller lends for kept sets: how many are needed, and what a call leaves there.
-- "Kept bits move to a lent slice of at least as many 64-bit words as the points need, sixteen times as many for a leaf run; a filter walk leaves its kept set there, any other call
-- zeros, and none touches words past them."
use Rattle.std.specs.Prelude.{List, ◌++◌, ℕ, ltb, ℤ, length, drop}
use Rattle.words.specs.First.{given, answer}
use Rattle.bits.specs.Set.{words_for, wiped}
use Rattle.sheet.specs.Layout.{points}

-- how many words the points of a sheet need [Y7]
abbrev pub need : List ℤ → ℕ
need w = words_for (points w)

-- 24: "bit slice too short", fewer words are lent than are needed [Y7, Y15]
unfoldable pub bits_no : ℕ → ℕ → ℕ
bits_no words len = given (ltb len words) 24

-- the words after a filter walk, by the number of its answer: the kept set, and past it as they were; a refusal "leaves lent memory [..] as they stood" [Y9, Y11]
unfoldable pub kept_by : ℕ → List ℕ → List ℕ → List ℕ
kept_by k set ws = answer k (set ++ drop (length set) ws) (λ n. ws)

-- the words after any other call: zeros, so many as it needs, and past them as they were [Y10, Y11]
unfoldable pub wiped_by : ℕ → ℕ → List ℕ → List ℕ
wiped_by k words ws = answer k (wiped words ws) (λ n. ws)
