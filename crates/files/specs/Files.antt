-- The bytes of words: "in files, little-endian two's complement".
use Rattle.std.specs.Prelude.{List, ℕ, zero, suc, ◌*◌, ◌/◌, ◌%◌, ℤ, pos, length, get_or}
use Rattle.std.specs.Int.{w32}
use Rattle.std.proofs.Common.{of_z}
use Rattle.words.specs.All.{tab}

-- the digits of a number written to base 256, the lowest first
unfoldable pub digit : ℕ → ℕ → ℕ
digit v zero = v % 256
digit v (suc zero) = v / 256 % 256
digit v (suc (suc zero)) = v / 65536 % 256
digit v (suc (suc (suc k))) = v / 16777216 % 256

-- byte k of a word: a digit of the word, or of the word and 2 ^ 32 where it is negative (`of_z`)
unfoldable pub byte_of : ℤ → ℕ → ℕ
byte_of z k = digit (of_z w32 z) k

-- byte k of a list of words, four to a word
unfoldable pub byte_at : List ℤ → ℕ → ℕ
byte_at ws k = byte_of (get_or ws (k / 4) (pos 0)) (k % 4)

-- all of them
unfoldable pub bytes_of : List ℤ → List ℕ
bytes_of ws = tab (4 * length ws) (byte_at ws)
