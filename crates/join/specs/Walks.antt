-- What the page maker is told by the two walks, by positions (q's first), with the ids of Q and the pair of two positions.
use Rattle.std.specs.Prelude.{◌≡◌, Bool, false, List, ℕ, ◌≤◌, ◌<◌}
use Rattle.list.specs.declared.Pair.{Pair}

pub record Walks : Type 0 where
  -- the filter walk for the q at j: whether position i of P is kept, and the nodes opened
  pub kept : ℕ → ℕ → Bool
  pub kept_opened : ℕ → ℕ
  -- the ring walk for the q at j and position i of P: whether it is clear, and the nodes opened
  pub clear : ℕ → ℕ → Bool
  pub clear_opened : ℕ → ℕ → ℕ
  pub qid : ℕ → ℕ
  pub pair : ℕ → ℕ → Pair

-- words that hold what is kept for the q at j, from position a on; before it nothing is
pub record Agrees (w : Walks) (j a : ℕ) (ws : List ℕ) : Type 0 where
  pub early : (i : ℕ) → i < a → w.kept j i ≡ false
  pub held : (i : ℕ) → a ≤ i → w.kept j i ≡ Rattle.bits.specs.Set.kept ws i
