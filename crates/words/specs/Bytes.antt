-- Words in files: "little-endian two's complement".
use Rattle.std.specs.Prelude.{List, [], ◌∷◌, ◌++◌, ℕ, zero, suc, ◌+◌, ◌*◌, ℤ, get_or}
use Rattle.std.specs.Int.{w32}
use Rattle.std.proofs.Common.{to_z}

-- the number that four bytes spell, the lowest first
unfoldable pub spell : ℕ → ℕ → ℕ → ℕ → ℕ
spell b0 b1 b2 b3 = b0 + 256 * b1 + 65536 * b2 + 16777216 * b3

-- that number below 2 ^ 31, and that number less 2 ^ 32 from there on (`to_z`) [S1]
unfoldable pub word : ℕ → ℕ → ℕ → ℕ → ℤ
word b0 b1 b2 b3 = to_z w32 (spell b0 b1 b2 b3)

-- the word at place k of a list of bytes
unfoldable pub word_at : List ℕ → ℕ → ℤ
word_at bs k = word (get_or bs (4 * k) 0) (get_or bs (4 * k + 1) 0) (get_or bs (4 * k + 2) 0) (get_or bs (4 * k + 3) 0)

-- the first n words
unfoldable pub words_of : List ℕ → ℕ → List ℤ
words_of bs zero = []
words_of bs (suc n) = words_of bs n ++ (word_at bs n ∷ [])
