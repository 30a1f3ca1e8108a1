-- Numbers drawn: the generator that the programs share.
use Rattle.std.specs.Prelude.{ℕ, ◌*◌, ◌/◌, ◌%◌, ◌^◌, bit_xor}

-- the number's lowest 64 bits after it was moved up by k
abbrev up : ℕ → ℕ → ℕ
up x k = x * 2 ^ k % 2 ^ 64

-- a number with another mixed in
abbrev upped : ℕ → ℕ → ℕ
upped x k = bit_xor x (up x k)

abbrev downed : ℕ → ℕ → ℕ
downed x k = bit_xor x (x / 2 ^ k)

-- the next state: moved up by 13, down by 7 and up by 17, mixed in each time
abbrev pub mix : ℕ → ℕ
mix x = upped (downed (upped x 13) 7) 17
