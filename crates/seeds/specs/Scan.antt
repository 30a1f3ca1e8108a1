-- Words that are 0, one after the other. What the code goes by.
use Rattle.std.specs.Prelude.{◌≡◌, List, ℕ, ◌+◌, ◌<◌, get_or}

-- the d words from w on are 0
pub record Blank (ws : List ℕ) (w d : ℕ) : Type 0 where
  pub at : (k : ℕ) → k < d → get_or ws (w + k) 0 ≡ 0
