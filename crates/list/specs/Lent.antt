-- A part of an array, lent as a slice.
use Rattle.std.specs.Prelude.{cond, ℕ, ltb}

-- how many of so many slots are lent: `len`, or all where it exceeds them [K3]
unfoldable pub lent_of : ℕ → ℕ → ℕ
lent_of slots len = cond (ltb slots len) slots len
