-- What is asked of a number: that it lies within a bound.
use Rattle.std.specs.Prelude.{ℕ, ◌≤◌, ℤ, nat_abs}

-- |z| ≤ n, as a record, so that n and z are inferred from a hypothesis
pub record Within (n : ℕ) (z : ℤ) : Type 0 where
  pub abs : nat_abs z ≤ n
