-- Numbers of refusal, 0 where none applies: "The first that applies, in the order listed." And the answer by its number: "Every refusal gives only its number".
use Rattle.std.specs.Prelude.{Bool, cond, List, [], ◌∷◌, ℕ, zero, suc}

-- the number, where the test says that it applies [N1]
unfoldable pub given : Bool → ℕ → ℕ
given t k = cond t k 0

-- the first number of a list that is not 0, or 0 [N1]
unfoldable pub first : List ℕ → ℕ
first [] = 0
first (zero ∷ l) = first l
first (suc k ∷ l) = suc k

-- 0 gives the answer, any other number the refusal of that number [N2]
unfoldable pub answer : {A : Type 0} → ℕ → A → (ℕ → A) → A
answer zero a refusal = a
answer (suc k) a refusal = refusal (suc k)
