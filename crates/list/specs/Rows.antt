-- The list of pairs that a rule makes: for each q in id order, for each p in id order, the pair if the rule holds of the two positions (q's first).
-- The rule is any test on positions, and so is what makes a pair of them.
use Rattle.std.specs.Prelude.{◌≡◌, Bool, cond, ◌&&◌, List, [], ◌∷◌, ◌++◌, ℕ, zero, suc, ◌+◌, ◌≤◌, ◌<◌, leb, length}
use Rattle.list.specs.declared.Pair.{Pair}

module _ (rule : ℕ → ℕ → Bool) (pair : ℕ → ℕ → Pair) where
  -- the pairs of the q at position j with the k positions of P from i on
  unfoldable pub row : ℕ → ℕ → ℕ → List Pair
  row j zero i = []
  row j (suc k) i = cond (rule j i) (pair j i ∷ row j k (i + 1)) (row j k (i + 1))

  -- the pairs of the k positions of Q from j on, with all n of P
  unfoldable pub rows : ℕ → ℕ → ℕ → List Pair
  rows n zero j = []
  rows n (suc k) j = row j n 0 ++ rows n k (j + 1)

  -- "at least t partners": the rule holds, and it holds of at least t of the n positions of P for this q [T3]
  unfoldable pub at_least : ℕ → ℕ → ℕ → ℕ → Bool
  at_least t n j i = rule j i && leb t (length (row j n 0))

  -- the list for np pump houses and nq chambers
  unfoldable pub list_by : ℕ → ℕ → List Pair
  list_by np nq = rows np nq 0

-- ids ascend strictly, from 1 to 2,000,000,000
pub record Rising (id : ℕ → ℕ) (n : ℕ) : Type 0 where
  pub rises : (i : ℕ) → i + 1 < n → id i < id (i + 1)
  pub low : (i : ℕ) → i < n → 0 < id i
  pub high : (i : ℕ) → i < n → id i ≤ 2000000000

-- the pair of two positions has their ids
pub record Named (pair : ℕ → ℕ → Pair) (qid pid : ℕ → ℕ) : Type 0 where
  pub q_is : (j i : ℕ) → (pair j i).q ≡ qid j
  pub p_is : (j i : ℕ) → (pair j i).p ≡ pid i
